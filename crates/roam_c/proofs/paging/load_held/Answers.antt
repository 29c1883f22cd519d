-- The page that was taken is the one that was put.
use Rattle.std.proofs.Common.{◌≡◌, ◌∙◌, sym, refl}
use Rattle.std.proofs.lemmas.Option.{same_Some}
use Rattle.roam_c.specs.declared.kept.Kept.{Kept}
use Rattle.roam_c.specs.declared.kept.Kept.TheVariants.{Page}
use Rattle.roam_c.proofs.paging.load_held.Goals as goal

pub returns-in-Done-clause-full : goal.returns-in-Done-clause-full
returns-in-Done-clause-full c =
    λ page was.
    let same : c.in-Some.kept.value ≡ Page page =
    same_Some c.in-Some.kept.value (Page page) (sym c.in-Some.ensures.value ∙ was) in
    let put = c.in-Done.ensures.page page (c.as_mut.ensures.value ∙ same) in
    record {
      cause = put.cause;
      loaded = put.loaded;
      taken = (λ _. c.take.ensures.empty);
      kept = (λ no. absurd (no refl));
    }
