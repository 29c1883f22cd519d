-- By turns, over the fields.
use Rattle.std.proofs.Common.{◌≡◌, ℕ, ◌*◌, ◌<◌, ◌≤◌, List, refl, sym, subst, true}
use Rattle.std.specs.Prelude.{IsNone}
use Rattle.std.proofs.lemmas.Bool.{both_ways}
use Rattle.mosaic_laws.specs.Tile.{IsTile}
use Rattle.mosaic_rounds.specs.Turn.{Waits, turn_in}
use Rattle.mosaic_rounds.specs.Across.{LacksBy}
use Rattle.mosaic_rounds.specs.Rounds.{IsSettled, Lacks, wait_of, rounds_of}
use Rattle.mosaic_rounds.proofs.RoundsLemmas.{settled-from, settled-lacks, lacks-to, lacks-from, wait-least}
use Rattle.mosaic_rounds.proofs.rounds.Rounds.next.Goals as goal

pub returns-in_err-turn-clause-none : goal.returns-in_err-turn-clause-none
returns-in_err-turn-clause-none c = (
  (λ e. subst IsSettled c.self.view_is (settled-from c.self.inside.shape c.self.inside.turn c.self.inside.words.items
      (λ v less waits. c.in_err-turn.ensures.none v less
      (subst (λ (w : List ℕ). Waits c.self.inside.shape w v) (sym c.deref.ensures.value) waits)))),
  (λ settled. subst IsNone (sym c.from_residual.ensures) refl),
)

pub returns-clause-none : goal.returns-clause-none
returns-clause-none c = (
  (λ e. absurd (both_ways true e refl)),
  (λ settled.
      let w : Waits c.self.inside.shape c.self.inside.words.items c.in_ok-turn.turn =
      subst (λ (w : List ℕ). Waits c.self.inside.shape w c.in_ok-turn.turn) c.deref.ensures.value
      c.in_ok-turn.ensures.waits in
      absurd (settled-lacks c.self.inside.shape c.self.inside.turn c.self.inside.words.items w.0 w.1
      (subst IsSettled (sym c.self.view_is) settled)
      (lacks-from c.self.inside.shape c.self.inside.turn c.self.inside.words.items w.0 w.3))),
)

pub returns-clause-tile : goal.returns-clause-tile
returns-clause-tile c =
    let w : Waits c.self.inside.shape c.self.inside.words.items c.in_ok-turn.turn =
    subst (λ (w : List ℕ). Waits c.self.inside.shape w c.in_ok-turn.turn) c.deref.ensures.value
    c.in_ok-turn.ensures.waits in
    let same : w.0 ≡ c.tile_in_turn.result = c.tile_in_turn.ensures.only w.0 w.1 w.2 in (
      subst (λ r. IsTile r.columns r.rows c.tile_in_turn.result) c.self.view_is c.tile_in_turn.ensures.tile,
      subst (λ r. Lacks r c.tile_in_turn.result) c.self.view_is
          (lacks-from c.self.inside.shape c.self.inside.turn c.self.inside.words.items c.tile_in_turn.result
          (subst (λ t. LacksBy c.self.inside.shape c.self.inside.words.items t 4) same w.3)),
    )

pub returns-clause-order : goal.returns-clause-order
returns-clause-order c u tile lacks =
    let w : Waits c.self.inside.shape c.self.inside.words.items c.in_ok-turn.turn =
    subst (λ (w : List ℕ). Waits c.self.inside.shape w c.in_ok-turn.turn) c.deref.ensures.value
    c.in_ok-turn.ensures.waits in
    let same : w.0 ≡ c.tile_in_turn.result = c.tile_in_turn.ensures.only w.0 w.1 w.2 in
    let at : c.in_ok-turn.turn ≡ turn_in c.self.inside.shape c.tile_in_turn.result =
    subst (λ t. c.in_ok-turn.turn ≡ turn_in c.self.inside.shape t) same (sym w.2) in
    let tile' : IsTile c.self.inside.shape.columns c.self.inside.shape.rows u =
    subst (λ r. IsTile r.columns r.rows u) (sym c.self.view_is) tile in
    let lacks' : Lacks (rounds_of c.self.inside.shape c.self.inside.turn c.self.inside.words.items) u =
    subst (λ r. Lacks r u) (sym c.self.view_is) lacks in
    let back : (v : ℕ) → Waits c.self.inside.shape c.self.inside.words.items v →
    Waits c.self.inside.shape c.deref.result.now v =
    λ v h. subst (λ (w : List ℕ). Waits c.self.inside.shape w v) (sym c.deref.ensures.value) h in
    subst (λ r. wait_of r c.tile_in_turn.result ≤ wait_of r u) c.self.view_is
    (wait-least c.self.inside.shape c.self.inside.turn c.self.inside.words.items c.tile_in_turn.result u
    c.tile_in_turn.ensures.tile tile'
    (u, tile', refl, lacks-to c.self.inside.shape c.self.inside.turn c.self.inside.words.items u lacks')
    (subst (λ k. c.self.inside.turn ≤ k → (v : ℕ) → c.self.inside.turn ≤ v → v < k →
    Waits c.self.inside.shape c.self.inside.words.items v → ⊥) at
    (λ from v late before h. c.in_ok-turn.ensures.first from v late before (back v h)))
    (subst (λ k. k < c.self.inside.turn → (v : ℕ) → c.self.inside.turn ≤ v →
    v < 2 * (c.self.inside.shape.columns * c.self.inside.shape.rows) →
    Waits c.self.inside.shape c.self.inside.words.items v → ⊥) at
    (λ less v late small h. c.in_ok-turn.ensures.later less v late small (back v h)))
    (subst (λ k. k < c.self.inside.turn → (v : ℕ) → v < k →
    Waits c.self.inside.shape c.self.inside.words.items v → ⊥) at
    (λ less v before h. c.in_ok-turn.ensures.wrapped less v before (back v h))))
