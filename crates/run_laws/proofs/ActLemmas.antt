-- Acts that stand, one after another, and acts that were cut short.
use Rattle.std.proofs.Common.{◌≡◌, ℕ, true, List, [], ◌∷◌, ◌++◌, Option, Some, refl, sym}
use Rattle.std.proofs.Common.{◌∙◌, ap, subst, append_assoc, append-nil}
use Rattle.roam_edge.specs.Fault.{Rose}
use Rattle.obj_write.specs.Written.{mesh_with, Grows}
use Rattle.run_laws.specs.Act.{Act, WholeMesh, ReportText, Sinks, Stands, IsCutShort, StandsInPart, meshes_of}
use Rattle.run_laws.specs.Act.{report_of}

-- a count that rose from a later moment on rose from the first one on, if it was the same
rose-since : (before middle now : ℕ) → middle ≡ before → Rose middle now → Rose before now
rose-since before middle now same rose =
    let P : ℕ → Type 0 = λ k. Rose k now in
    subst P same rose

-- nothing came
pub grows-nothing : {A : Type 0} (before : Option (List A)) → Grows before before []
grows-nothing before all is = is ∙ ap Some (sym (append-nil all))

-- one and then more came
pub grows-append : {A : Type 0} (before middle now : Option (List A)) (first second : List A)
    → Grows before middle first → Grows middle now second → Grows before now (first ++ second)
grows-append before middle now first second one two all is =
    two (all ++ first) (one all is) ∙ ap Some (append_assoc all first second)

-- acts and then more acts add the meshes of the first and then those of the second
pub meshes_of-append : (first second : List Act) → meshes_of (first ++ second) ≡ meshes_of first ++ meshes_of second
meshes_of-append [] second = refl
meshes_of-append (WholeMesh prefix number bytes ∷ first) second =
    ap (λ m. mesh_with prefix number bytes true ∷ m) (meshes_of-append first second)
meshes_of-append (ReportText bytes ∷ first) second = meshes_of-append first second

-- and so it is with the bytes of the report
pub report_of-append : (first second : List Act) → report_of (first ++ second) ≡ report_of first ++ report_of second
report_of-append [] second = refl
report_of-append (WholeMesh prefix number bytes ∷ first) second = report_of-append first second
report_of-append (ReportText bytes ∷ first) second =
    ap (λ m. bytes ++ m) (report_of-append first second) ∙ sym (append_assoc bytes (report_of first) (report_of second))

-- no act was done
pub stands-nothing : (before : Sinks) → Stands before before []
stands-nothing before =
    record {
      meshes_grow = grows-nothing before.meshes;
      report_grows = grows-nothing before.report;
      mesh_same = refl;
      report_same = refl;
    }

-- acts were done, and then others
pub stands-append : (before middle now : Sinks) (first second : List Act)
    → Stands before middle first → Stands middle now second → Stands before now (first ++ second)
stands-append before middle now first second one two = record {
  meshes_grow = rw (meshes_of-append first second) (grows-append before.meshes middle.meshes now.meshes
      (meshes_of first) (meshes_of second) one.meshes_grow two.meshes_grow);
  report_grows = rw (report_of-append first second) (grows-append before.report middle.report now.report
      (report_of first) (report_of second) one.report_grows two.report_grows);
  mesh_same = two.mesh_same ∙ one.mesh_same;
  report_same = two.report_same ∙ one.report_same;
}

-- acts were done, and then an act in part
pub part-append : (before middle now : Sinks) (first done : List Act) (next : Act)
    → Stands before middle first → StandsInPart middle now done next → StandsInPart before now (first ++ done) next
part-append before middle now first done (WholeMesh prefix number bytes) one part = (
  λ all is.
      let cut = part.0 (all ++ meshes_of first) (one.meshes_grow all is) in (
        cut.0,
        cut.1,
        cut.2 ∙ ap Some (append_assoc all (meshes_of first) (meshes_of done ++ cut.0)
            ∙ ap (λ m. all ++ m) (sym (append_assoc (meshes_of first) (meshes_of done) cut.0)
            ∙ ap (λ m. m ++ cut.0) (sym (meshes_of-append first done)))),
      ),
  rw (report_of-append first done)
      (grows-append before.report middle.report now.report (report_of first) (report_of done) one.report_grows part.1),
  rose-since before.mesh_faults middle.mesh_faults now.mesh_faults one.mesh_same part.2,
  part.3 ∙ one.report_same,
)
part-append before middle now first done (ReportText bytes) one part = (
  rw (meshes_of-append first done)
      (grows-append before.meshes middle.meshes now.meshes (meshes_of first) (meshes_of done) one.meshes_grow part.0),
  λ all is.
      let cut = part.1 (all ++ report_of first) (one.report_grows all is) in (
        cut.0,
        cut.1,
        cut.2 ∙ ap Some (append_assoc all (report_of first) (report_of done ++ cut.0)
            ∙ ap (λ m. all ++ m) (sym (append_assoc (report_of first) (report_of done) cut.0)
            ∙ ap (λ m. m ++ cut.0) (sym (report_of-append first done)))),
      ),
  rose-since before.report_faults middle.report_faults now.report_faults one.report_same part.2,
  part.3 ∙ one.mesh_same,
)

-- acts were done, and then others were cut short
pub cut-append : (before middle now : Sinks) (first second : List Act)
    → Stands before middle first → IsCutShort middle now second → IsCutShort before now (first ++ second)
cut-append before middle now first second one cut = record {
  done = first ++ cut.done;
  next = cut.next;
  owed = cut.owed;
  in_order = ap (λ m. first ++ m) cut.in_order ∙ sym (append_assoc first cut.done (cut.next ∷ cut.owed));
  standing = part-append before middle now first cut.done cut.next one cut.standing;
}

-- acts were cut short, and more were owed behind them
pub cut-longer : (before now : Sinks) (acts more : List Act) → IsCutShort before now acts →
    IsCutShort before now (acts ++ more)
cut-longer before now acts more cut = record {
  done = cut.done;
  next = cut.next;
  owed = cut.owed ++ more;
  in_order = ap (λ m. m ++ more) cut.in_order ∙ append_assoc cut.done (cut.next ∷ cut.owed) more;
  standing = cut.standing;
}
