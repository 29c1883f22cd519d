-- Those so far have gone, and those that are to go have places.
use Rattle.std.proofs.Common.{◌≡◌, ℕ, ◌+◌, ◌-◌, ◌≤◌, length, take, drop}
use Rattle.draw_buffer.specs.Times.{times}
use Rattle.draw_buffer.specs.Exchange.{addresses_of, KeepsUntold}
use Rattle.draw_buffer.proofs.buffer.leave_all.Given as goal

abbrev pub invariant-loop-t : goal.invariant-loop-t
invariant-loop-t l = record {
  n : l.exchange.n ≡ l.initial.exchange.n;
  most : l.exchange.most ≡ l.initial.exchange.most;
  points : l.exchange.points ≡ l.initial.exchange.points;
  given : l.exchange.given ≡ l.initial.exchange.given;
  total : (a : ℕ) →
      times l.exchange.triangles a + times (addresses_of l.exchange.waiting) a + times (take l.t-index l.gone) a
      ≡ times l.initial.exchange.triangles a + times (addresses_of l.initial.exchange.waiting) a;
  here : (a : ℕ) → times (drop l.t-index l.gone) a ≤ times l.exchange.triangles a;
  waiting : length l.exchange.waiting ≡ length l.initial.exchange.waiting - l.t-index;
  count : length l.exchange.triangles + length l.exchange.waiting + l.t-index
      ≡ length l.initial.exchange.triangles + length l.initial.exchange.waiting;
  told : KeepsUntold l.initial.exchange l.exchange;
  few : length l.exchange.written ≤ l.t-index;
}
