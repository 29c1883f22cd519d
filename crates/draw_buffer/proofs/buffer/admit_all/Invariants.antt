-- Those so far wait, at most three numbers for each were given out, and all else is as before.
use Rattle.std.proofs.Common.{◌≡◌, ◌*◌, ◌≤◌, length, take}
use Rattle.draw_buffer.specs.Exchange.{addresses_of, IsGiven}
use Rattle.draw_buffer.proofs.buffer.admit_all.Given as goal

abbrev pub invariant-loop-t : goal.invariant-loop-t
invariant-loop-t l = record {
  rest : l.exchange ≡ record l.initial.exchange {
    waiting = l.exchange.waiting;
    points = l.exchange.points;
    uses = l.exchange.uses;
    given = l.exchange.given;
  };
  waiting : addresses_of l.exchange.waiting ≡ take l.t-index l.come;
  given : IsGiven l.initial.exchange l.exchange;
  few : length l.exchange.given ≤ 3 * l.t-index;
}
