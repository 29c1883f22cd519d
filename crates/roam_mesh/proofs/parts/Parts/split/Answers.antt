use Rattle.std.proofs.Common.{◌≡◌, ℕ, ◌<◌, List, [], ◌∷◌, ◌++◌, length, refl, sym, ◌∙◌, ap, subst, arith}
use Rattle.std.proofs.lemmas.List.{get_or_read}
use Rattle.roam_mesh.specs.Parts.{PartsState, blank, entry_at, IsWhole}
use Rattle.roam_mesh.specs.Change.{seated}
use Rattle.roam_mesh.specs.Keeping.{CanTakeBack, IsKeptMate}
use Rattle.roam_mesh.specs.declared.entry.Entry.{Entry}
use Rattle.roam_mesh.proofs.PlaceLemmas.{live_below}
use Rattle.roam_mesh.proofs.RoleLemmas.{leaf_live}
use Rattle.roam_mesh.proofs.SplitLaws.{first_rest, second_rest, mate, first_last, split_first, split_second}
use Rattle.roam_mesh.proofs.SplitLaws.{split_alone, split_both}
use Rattle.roam_mesh.proofs.parts.Parts.split.Goals as goal
use Rattle.roam_mesh.proofs.parts.Parts.split.Goals.{After-n-n}

-- once the chain is split, and before anything comes back
module _ (c : After-n-n) where
  whole : IsWhole c.args.self.now
  whole = subst IsWhole c.self.view_is c.self.invariant.0

  now : IsWhole c.split_at-born.new.self
  now = subst IsWhole c.self-2.view_is c.self-2.invariant.0

  -- what was read is what the slot had
  own : c.index.result.now ≡ entry_at c.args.self.now c.args.s.0
  own =
      let below = live_below c.args.self.now.pool.pairs c.args.s.0
      (leaf_live c.args.self.now.pool.pairs c.args.s.0 c.requires.leaf) in
      let long = whole.entries in
      let same = ap (λ (p : PartsState). length p.entries) c.self.view_is in
      let within : c.args.s.0 < length c.self.inside.entries.items = omega arith in
      get_or_read c.self.inside.entries.items c.args.s.0 c.index.result.now within c.index.ensures blank
      ∙ ap (λ (p : PartsState). entry_at p c.args.s.0) c.self.view_is

  -- what is fresh besides the slot, and besides its mate
  abbrev rest : List ℕ
  rest = first_rest c.args.self.now c.split_at-born.new.self c.args.s.0 c.requires.parts whole now c.requires.settled
      c.requires.leaf c.split_at-born.ensures.split

  abbrev front : List ℕ
  front = second_rest c.args.self.now c.split_at-born.new.self c.args.s.0 c.requires.parts whole now
      c.requires.settled c.requires.leaf c.split_at-born.ensures.split

  abbrev other : ℕ
  other = mate c.args.self.now c.split_at-born.new.self c.args.s.0 c.requires.parts whole now c.requires.settled
      c.requires.leaf c.split_at-born.ensures.split

  -- the slot has back what it had
  first : (middle : PartsState) → ((front : List ℕ) (s : ℕ) → c.split_at-born.new.self.fresh ≡ front ++ (s ∷ [])
      → middle ≡ seated c.split_at-born.new.self front s c.index.result.now) →
      middle ≡ seated c.split_at-born.new.self rest c.args.s.0 (entry_at c.args.self.now c.args.s.0)
  first middle back =
      back rest c.args.s.0 (first_last c.args.self.now c.split_at-born.new.self c.args.s.0 c.requires.parts whole now
      c.requires.settled c.requires.leaf c.split_at-born.ensures.split)
      ∙ ap (seated c.split_at-born.new.self rest c.args.s.0) own

  -- then its mate can have back what it had
  second : (middle : PartsState) (e : Entry) → IsKeptMate c.args.self.now c.args.s.0 e
      → middle ≡ seated c.split_at-born.new.self rest c.args.s.0 (entry_at c.args.self.now c.args.s.0) →
      CanTakeBack middle front other (entry_at c.args.self.now other)
  second middle e kept same = split_second c.args.self.now c.split_at-born.new.self c.args.s.0 c.requires.parts whole
      now c.requires.settled c.requires.leaf c.split_at-born.ensures.split middle e kept same

pub take_back-requires : goal.take_back-requires
take_back-requires c =
    let begun = (goal.at.take_back-requires c).After-n-n in
    record {
      last = (
        rest begun,
        c.args.s.0,
        subst (λ (e : Entry). CanTakeBack c.split_at-born.new.self (rest begun) c.args.s.0 e) (sym (own begun))
            (split_first c.args.self.now c.split_at-born.new.self c.args.s.0 c.requires.parts (whole begun)
            (now begun) c.requires.settled c.requires.leaf c.split_at-born.ensures.split),
      );
    }

pub take_back-requires-in-Some : goal.take_back-requires-in-Some
take_back-requires-in-Some c =
    let begun = (goal.at.take_back-requires-in-Some c).After-n-n in
    let kept = c.in-Some.ensures.some in
    record {
      last = (
        front begun,
        other begun,
        subst (λ (e : Entry). CanTakeBack c.take_back.new.self (front begun) (other begun) e) (sym kept.own)
            (second begun c.take_back.new.self c.in-Some.other kept
            (first begun c.take_back.new.self c.take_back.ensures.seated)),
      );
    }

pub returns-in-Some-clause-split : goal.returns-in-Some-clause-split
returns-in-Some-clause-split c =
    let begun = (goal.at.returns-in-Some-clause-split c).After-n-n in
    let kept = c.in-Some.ensures.some in
    let back = first begun c.take_back.new.self c.take_back.ensures.seated in
    let last = (second begun c.take_back.new.self c.in-Some.other kept back).last in
    split_both c.args.self.now c.split_at-born.new.self c.args.s.0 c.requires.parts (whole begun)
    (now begun) c.requires.settled c.requires.leaf c.split_at-born.ensures.split c.take_back.new.self
    c.take_back-in-Some.new.self c.in-Some.other kept back
    (c.take_back-in-Some.ensures.seated (front begun) (other begun) last
    ∙ ap (seated c.take_back.new.self (front begun) (other begun)) kept.own)

pub returns-in_default-clause-split : goal.returns-in_default-clause-split
returns-in_default-clause-split c =
    let begun = (goal.at.returns-in_default-clause-split c).After-n-n in
    split_alone c.args.self.now c.split_at-born.new.self c.args.s.0 c.requires.parts (whole begun)
    (now begun) c.requires.settled c.requires.leaf c.split_at-born.ensures.split c.take_back.new.self
    (c.in_default.ensures.none refl)
    (first begun c.take_back.new.self c.take_back.ensures.seated)
