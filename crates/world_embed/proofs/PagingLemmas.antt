-- That the page of a square can go.
use Rattle.std.proofs.Common.{◌≡◌, ℕ, ◌+◌, ◌<◌, ap, refl, arith, None, Some, IsTrue}
use Rattle.std.proofs.lemmas.Bool.{both_ways}
use Rattle.std.specs.Prelude.{Option, is_some}
use Rattle.mesh_defs.specs.declared.point.Point.{Point}
use Rattle.page_wedges.specs.Page.{Page}
use Rattle.page_store.specs.Store.{Store, page_at}
use Rattle.page_store.specs.Unload.{IsFree}
use Rattle.roam_embed.specs.declared.answer.Answer.{Answer}
use Rattle.roam_embed.specs.declared.answer.Answer.TheVariants.{Done, BadPage, NotThere}
use Rattle.world_embed.specs.Worlds.{CanUnload, IsUnloadAnswer}

-- answers are told apart
abbrev mark : Answer → ℕ
mark Done = 0
mark BadPage = 1
mark NotThere = 2
mark other = 3

differ : {X : Type 0} → (a b : Answer) → (mark a ≡ mark b → ⊥) → a ≡ b → X
differ a b apart e = absurd (apart (ap mark e))

-- where there is no page, none is loaded
none-not : {X : Type 0} (o : Option X) → o ≡ None → IsTrue (is_some o) → ⊥
none-not o none some = both_ways (is_some o) (ap is_some none) some

-- a page that is loaded there, is not the coarsest and is needed by no finer one can go
pub unload-done : (s : Store) (q : ℕ) (t : Point) (page : Page) → page_at s q t ≡ Some page → s.n + q < s.large →
    IsFree s q t → IsUnloadAnswer s q t Done
unload-done s q t page there fine free =
    let some = ap is_some there in
    let can : CanUnload s q t = record { loaded = some; fine = fine; free = free } in
    record {
      done = ((λ _. can), (λ _. refl));
      not_there = (differ Done NotThere (λ e. omega (arith, e)), (λ none. absurd (none-not (page_at s q t) none some)));
      bad_page = (differ Done BadPage (λ e. omega (arith, e)), (λ no. absurd (no.1 can)));
    }
