-- Each that waits is to come behind the last.
use Rattle.std.proofs.Common.{◌≡◌, ℕ, ◌+◌, length}
use Rattle.draw_buffer.specs.Times.{times}
use Rattle.draw_buffer.specs.Exchange.{addresses_of, KeepsUntold}
use Rattle.draw_buffer.proofs.buffer.settle_all.Given as goal

abbrev pub invariant-loop-exchange : goal.invariant-loop-exchange
invariant-loop-exchange l = record {
  n : l.exchange.n ≡ l.initial.exchange.n;
  most : l.exchange.most ≡ l.initial.exchange.most;
  points : l.exchange.points ≡ l.initial.exchange.points;
  given : l.exchange.given ≡ l.initial.exchange.given;
  total : (a : ℕ) → times l.exchange.triangles a + times (addresses_of l.exchange.waiting) a
      ≡ times l.initial.exchange.triangles a + times (addresses_of l.initial.exchange.waiting) a;
  count : length l.exchange.triangles + length l.exchange.waiting
      ≡ length l.initial.exchange.triangles + length l.initial.exchange.waiting;
  told : KeepsUntold l.initial.exchange l.exchange;
  few : length l.exchange.written + length l.exchange.waiting
      ≡ length l.initial.exchange.written + length l.initial.exchange.waiting;
}

abbrev pub decreases-loop-exchange : goal.decreases-loop-exchange
decreases-loop-exchange l = length l.exchange.waiting
