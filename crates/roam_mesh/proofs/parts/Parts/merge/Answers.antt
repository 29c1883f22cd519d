use Rattle.std.proofs.Common.{◌≡◌, ℕ, ◌≤◌, ◌<◌, List, [], ◌∷◌, ◌++◌, length, refl, sym, ◌∙◌, ap, subst, arith}
use Rattle.std.proofs.lemmas.List.{get_or_read}
use Rattle.mesh_laws.specs.Edge.{mate_of}
use Rattle.mesh_laws.specs.Slots.{address_at}
use Rattle.roam_mesh.specs.Parts.{PartsState, blank, entry_at, IsWhole}
use Rattle.roam_mesh.specs.Change.{seated}
use Rattle.roam_mesh.specs.Keeping.{CanTakeBack}
use Rattle.roam_mesh.specs.declared.entry.Entry.{Entry}
use Rattle.roam_mesh.proofs.PlaceLemmas.{live_below}
use Rattle.roam_mesh.proofs.RoleLemmas.{ready_live}
use Rattle.roam_mesh.proofs.MergeLaws.{first_rest, second_rest, mate, first_last, merge_first, merge_second}
use Rattle.roam_mesh.proofs.MergeLaws.{merge_alone, merge_both}
use Rattle.roam_mesh.proofs.parts.Parts.merge.Goals as goal
use Rattle.roam_mesh.proofs.parts.Parts.merge.Goals.{After-n-n}

-- once the diamond is merged, and before anything comes back
module _ (c : After-n-n) where
  whole : IsWhole c.args.self.now
  whole = subst IsWhole c.self.view_is c.self.invariant.0

  -- what was read is what the slot had
  own : c.index.result.now ≡ entry_at c.args.self.now c.args.s.0
  own =
      let below = live_below c.args.self.now.pool.pairs c.args.s.0
      (ready_live c.args.self.now.pool.pairs c.args.s.0 c.requires.ready) in
      let long = whole.entries in
      let same = ap (λ (p : PartsState). length p.entries) c.self.view_is in
      let within : c.args.s.0 < length c.self.inside.entries.items = omega arith in
      get_or_read c.self.inside.entries.items c.args.s.0 c.index.result.now within c.index.ensures blank
      ∙ ap (λ (p : PartsState). entry_at p c.args.s.0) c.self.view_is

  -- what is fresh besides the slot, and besides its mate
  abbrev rest : List ℕ
  rest = first_rest c.args.self.now c.merge_at.new.self c.args.s.0 c.merge_at.ensures whole c.requires.parts
      c.requires.settled c.requires.ready

  abbrev front : List ℕ
  front = second_rest c.args.self.now c.merge_at.new.self c.args.s.0 c.merge_at.ensures whole c.requires.parts
      c.requires.settled c.requires.ready

  abbrev other : ℕ
  other = mate c.args.self.now c.merge_at.new.self c.args.s.0 c.merge_at.ensures whole c.requires.parts
      c.requires.settled c.requires.ready

  -- the slot has back what it had
  first : (middle : PartsState) → ((front : List ℕ) (s : ℕ) → c.merge_at.new.self.fresh ≡ front ++ (s ∷ []) →
      middle ≡ seated c.merge_at.new.self front s c.index.result.now) →
      middle ≡ seated c.merge_at.new.self rest c.args.s.0 (entry_at c.args.self.now c.args.s.0)
  first middle back =
      back rest c.args.s.0 (first_last c.args.self.now c.merge_at.new.self c.args.s.0 c.merge_at.ensures whole
      c.requires.parts c.requires.settled c.requires.ready)
      ∙ ap (seated c.merge_at.new.self rest c.args.s.0) own

  -- then its mate can have back what it had
  second : (middle : PartsState) → 1 ≤ mate_of (address_at c.args.self.now.pool.pairs c.args.s.0) →
      middle ≡ seated c.merge_at.new.self rest c.args.s.0 (entry_at c.args.self.now c.args.s.0) →
      CanTakeBack middle front other (entry_at c.args.self.now other)
  second middle some same = merge_second c.args.self.now c.merge_at.new.self c.args.s.0 c.merge_at.ensures whole
      c.requires.parts c.requires.settled c.requires.ready middle some same

pub take_back-requires : goal.take_back-requires
take_back-requires c =
    let begun = (goal.at.take_back-requires c).After-n-n in
    record {
      last = (
        rest begun,
        c.args.s.0,
        subst (λ (e : Entry). CanTakeBack c.merge_at.new.self (rest begun) c.args.s.0 e) (sym (own begun))
            (merge_first c.args.self.now c.merge_at.new.self c.args.s.0 c.merge_at.ensures
            (whole begun) c.requires.parts c.requires.settled c.requires.ready),
      );
    }

pub take_back-requires-in-Some : goal.take_back-requires-in-Some
take_back-requires-in-Some c =
    let begun = (goal.at.take_back-requires-in-Some c).After-n-n in
    record {
      last = (
        front begun,
        other begun,
        subst (λ (e : Entry). CanTakeBack c.take_back.new.self (front begun) (other begun) e)
            (sym c.in-Some.ensures.own)
            (second begun c.take_back.new.self c.in-Some.ensures.some
            (first begun c.take_back.new.self c.take_back.ensures.seated)),
      );
    }

pub returns-in-Some-clause-merge : goal.returns-in-Some-clause-merge
returns-in-Some-clause-merge c =
    let begun = (goal.at.returns-in-Some-clause-merge c).After-n-n in
    let some = c.in-Some.ensures.some in
    let back = first begun c.take_back.new.self c.take_back.ensures.seated in
    let last = (second begun c.take_back.new.self some back).last in
    merge_both c.args.self.now c.merge_at.new.self c.args.s.0 c.merge_at.ensures (whole begun) c.requires.parts
    c.requires.settled c.requires.ready c.take_back.new.self c.take_back-in-Some.new.self some back
    (c.take_back-in-Some.ensures.seated (front begun) (other begun) last
    ∙ ap (seated c.take_back.new.self (front begun) (other begun)) c.in-Some.ensures.own)

pub returns-in_default-clause-merge : goal.returns-in_default-clause-merge
returns-in_default-clause-merge c =
    let begun = (goal.at.returns-in_default-clause-merge c).After-n-n in
    merge_alone c.args.self.now c.merge_at.new.self c.args.s.0 c.merge_at.ensures (whole begun) c.requires.parts
    c.requires.settled c.requires.ready c.take_back.new.self (c.in_default.ensures.none refl)
    (first begun c.take_back.new.self c.take_back.ensures.seated)
