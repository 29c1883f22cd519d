-- Writing one piece after another: what a sink has then, and what stands of the whole where a write fails.
use Rattle.std.proofs.Common.{◌≡◌, ℕ, List, [], ◌++◌, Option, Some, Result, Ok, Err, sym, ap, ◌∙◌, append_assoc}
use Rattle.std.proofs.lemmas.List.{append-nil}
use Rattle.roam_edge.specs.Sink.{Appends}
use Rattle.roam_gen.specs.Rows.{Wrote}

-- nothing was written yet
pub wrote-nothing : (before : Option (List ℕ)) → Wrote before before []
wrote-nothing before = λ all is. is ∙ ap (λ l. Some l) (sym (append-nil all))

-- one piece more
pub wrote-more : {T E : Type 0} (before mid now : Option (List ℕ)) (done piece : List ℕ) (x : T) →
    Wrote before mid done → Appends {T = T} {E = E} mid now piece (Ok x)
    → Wrote before now (done ++ piece)
wrote-more before mid now done piece x wrote appends =
    λ all is. appends.ok (all ++ done) (wrote all is) ∙ ap (λ l. Some l) (append_assoc all done piece)

-- the whole was written
pub wrote-all : {T E : Type 0} (before now : Option (List ℕ)) (whole : List ℕ) (x : T) → Wrote before now whole →
    Appends {T = T} {E = E} before now whole (Ok x)
wrote-all before now whole x wrote = record { ok = wrote; failed = tt }

-- a piece was cut short: what stands is a prefix of the whole
pub wrote-part : {T U E F : Type 0} (before mid now : Option (List ℕ)) (done piece rest whole : List ℕ) (e : E)
    (f : F) → Wrote before mid done
    → Appends {T = T} {E = E} mid now piece (Err e) → whole ≡ done ++ (piece ++ rest) →
    Appends {T = U} {E = F} before now whole (Err f)
wrote-part before mid now done piece rest whole e f wrote appends is_whole =
    record {
      ok = tt;
      failed = λ all is.
          let cut = appends.failed (all ++ done) (wrote all is) in (
            done ++ cut.0,
            record {
              back = cut.1.back ++ rest;
              joined = is_whole ∙ ap (λ l. done ++ (l ++ rest)) cut.1.joined
                  ∙ ap (λ l. done ++ l) (append_assoc cut.0 cut.1.back rest)
                  ∙ sym (append_assoc done cut.0 (cut.1.back ++ rest));
            },
            cut.2 ∙ ap (λ l. Some l) (append_assoc all done cut.0),
          );
    }

-- a piece behind what was written, whatever becomes of it
pub wrote-then : {T E : Type 0} (before mid now : Option (List ℕ)) (done piece : List ℕ) (answer : Result T E) →
    Wrote before mid done → Appends mid now piece answer
    → Appends before now (done ++ piece) answer
wrote-then before mid now done piece (Ok x) wrote appends =
    wrote-all before now (done ++ piece) x (wrote-more before mid now done piece x wrote appends)
wrote-then before mid now done piece (Err e) wrote appends =
    wrote-part before mid now done piece [] (done ++ piece) e e wrote appends
    (ap (λ l. done ++ l) (sym (append-nil piece)))
