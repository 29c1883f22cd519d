-- What the calls on a mosaic do, from what the rounds do.
use Rattle.std.proofs.Common.{◌≡◌, ◌≢◌, ◌↔◌, ℕ, zero, suc, ◌+◌, ◌*◌, ◌^◌, ◌<◌, ◌≤◌, false, IsTrue, List, [], ◌∷◌}
use Rattle.std.proofs.Common.{◌++◌, length, drop, take, map, get_or, refl, sym, ◌∙◌, ap, subst, arith, ⊎_elim}
use Rattle.std.proofs.Common.{set, eqb, eq-eqb, ◌||◌}
use Rattle.std.specs.Prelude.{All, Contains}
use Rattle.std.proofs.lemmas.Bool.{both_ways, cases_Bool, or_cases, or_right, eqb-true}
use Rattle.std.proofs.lemmas.List.{length-map, length-take, append_assoc, set_at, drop_more, map_more}
use Rattle.std.proofs.lemmas.Nat.{pow-add}
use Rattle.mesh_defs.specs.declared.point.Point.{Point}
use Rattle.mesh_defs.specs.ClosedSet.{among}
use Rattle.mosaic_laws.specs.Tile.{IsTile}
use Rattle.mosaic_rounds.specs.BorderPoints.{BorderState, has_split}
use Rattle.mosaic_rounds.specs.Place.{centre_place, IsBorderPlace, IsSaidBy}
use Rattle.mosaic_rounds.specs.Rounds.{RoundsState, splits, IsAskedOf, IsSettled, Lacks, turn_of, wait_of}
use Rattle.roam_embed.specs.declared.answer.Answer.{Answer}
use Rattle.roam_embed.specs.declared.answer.Answer.TheVariants.{Done, OutsideGrid, NoRoom, Shrunk}
use Rattle.roam_embed.specs.declared.notes.Required.{Required}
use Rattle.roam_embed.specs.Mosaics.{SameBooks, IsNextTold, AreRequiredTold, IsBorderKept}

-- answers are told apart
abbrev mark : Answer → ℕ
mark Done = 0
mark OutsideGrid = 1
mark NoRoom = 2
mark Shrunk = 3
mark other = 4

differ : {X : Type 0} → (a b : Answer) → (mark a ≡ mark b → ⊥) → a ≡ b → X
differ a b apart e = absurd (apart (ap mark e))

-- the next tile

module _ (before after : RoundsState) (books : SameBooks before after) where
  pub next-none : IsSettled before → after.turn ≡ before.turn →
      IsNextTold before after (record { column = 0; row = 0; waits = 0; spare = 0 }) Done
  next-none settled turn = record {
    done = refl;
    none = ((λ _. settled), (λ _. refl));
    one = omega arith;
    tile = (λ e. absurd (omega (arith, e)));
    order = (λ e. absurd (omega (arith, e)));
    turn = (λ e. absurd (omega (arith, e)));
    same = (λ _. turn);
    column = (λ _. refl);
    row = (λ _. refl);
    spare = refl;
    books = books;
  }

  pub next-some : (t : Point) → (IsSettled before → ⊥) → IsTile before.columns before.rows t × Lacks before t →
      ((u : Point) → IsTile before.columns before.rows u → Lacks before u → wait_of before t ≤ wait_of before u) →
      after.turn ≡ turn_of before t + 1 →
      IsNextTold before after (record { column = t.x; row = t.y; waits = 1; spare = 0 }) Done
  next-some t unsettled tile order turn = record {
    done = refl;
    none = ((λ e. absurd (omega (arith, e))), (λ settled. absurd (unsettled settled)));
    one = omega arith;
    tile = (λ _. tile);
    order = (λ _. order);
    turn = (λ _. turn);
    same = (λ e. absurd (omega (arith, e)));
    column = (λ e. absurd (omega (arith, e)));
    row = (λ e. absurd (omega (arith, e)));
    spare = refl;
    books = books;
  }

-- what is required

among-contains : (f : ℕ → ℕ) (xs : List ℕ) (a : ℕ) → IsTrue (among xs a) → Contains (map f xs) (f a)
among-contains f [] a is = absurd (both_ways false refl is)
among-contains f (x ∷ xs) a is = ⊎_elim
    (λ same. (0, omega arith, ap f (eqb-true x a same)))
    (λ rest.
    let h = among-contains f xs a rest in
    let less = h.1 in (suc h.0, omega arith, h.2))
    (or_cases (eqb x a) (among xs a) is)

contains-among : (f : ℕ → ℕ) (xs : List ℕ) (p k : ℕ) → k < length (map f xs) → get_or (map f xs) k p ≡ p →
    (a : ℕ) × IsTrue (among xs a) × (f a ≡ p)
contains-among f [] p k less same = absurd (omega arith)
contains-among f (x ∷ xs) p zero less same =
    (x, ap (λ b. b || among xs x) (eq-eqb x x refl), same)
contains-among f (x ∷ xs) p (suc k) less same =
    let h = contains-among f xs p k (omega arith) same in
    (h.0, or_right (eqb x h.0) (among xs h.0) h.1, h.2)

module _ (m : RoundsState) (t : Point) (list : List ℕ) (few : length list ≤ 2 ^ (m.n + 2))
    (just : (a : ℕ) → IsTrue (among list a) ↔ IsAskedOf m t a) where
  places : List ℕ
  places = map (centre_place m.n) list

  places-just : (p : ℕ) → Contains places p ↔ ((a : ℕ) × IsAskedOf m t a × (centre_place m.n a ≡ p))
  unfolding places
  places-just p = (
    (λ h.
        let a = contains-among (centre_place m.n) list p h.0 h.1 h.2 in (a.0, (just a.0).0 a.1, a.2)),
    (λ h.
        subst (Contains (map (centre_place m.n) list)) h.2
        (among-contains (centre_place m.n) list h.0 ((just h.0).1 h.1))),
  )

  places-few : length places ≤ 4 * 2 ^ m.n
  unfolding places
  places-few =
      let long : length (map (centre_place m.n) list) ≡ length list = length-map list (centre_place m.n) in
      let four : 2 ^ (m.n + 2) ≡ 2 ^ m.n * 4 = pow-add 2 m.n 2 in omega arith

  module _ (tile : IsTile m.columns m.rows t) (array : List ℕ) where
    pub no-room : (told : Required) → length array < length list → AreRequiredTold m t array array told told NoRoom
    unfolding places
    no-room told less =
        let long : length (map (centre_place m.n) list) ≡ length list = length-map list (centre_place m.n) in record {
          outside_grid = (differ NoRoom OutsideGrid (λ e. omega (arith, e)), (λ none. absurd (none tile)));
          places = map (centre_place m.n) list;
          just = (λ _. places-just);
          few = places-few;
          done = (differ NoRoom Done (λ e. omega (arith, e)), (λ h. let most = h.1 in absurd (omega arith)));
          no_room = ((λ _. (tile, omega arith)), (λ _. refl));
          written = differ NoRoom Done (λ e. omega (arith, e));
          counted = differ NoRoom Done (λ e. omega (arith, e));
          lacks = differ NoRoom Done (λ e. omega (arith, e));
          one = differ NoRoom Done (λ e. omega (arith, e));
          spare = differ NoRoom Done (λ e. omega (arith, e));
          unwritten = (λ _. refl);
          untold = (λ _. refl);
        }

    pub told : (now : List ℕ) (told_before note : Required) → length list ≤ length array →
        now ≡ map (centre_place m.n) list ++ drop (length list) array → note.count ≡ length list →
        (note.lacks ≡ 1) ↔ Lacks m t → note.lacks ≤ 1 → note.spare ≡ 0 →
        AreRequiredTold m t array now told_before note Done
    unfolding places
    told now told_before note room written count lacks one spare =
        let long : length (map (centre_place m.n) list) ≡ length list = length-map list (centre_place m.n) in record {
          outside_grid = (differ Done OutsideGrid (λ e. omega (arith, e)), (λ none. absurd (none tile)));
          places = map (centre_place m.n) list;
          just = (λ _. places-just);
          few = places-few;
          done = ((λ _. (tile, omega arith)), (λ _. refl));
          no_room = (differ Done NoRoom (λ e. omega (arith, e)), (λ h. let most = h.1 in absurd (omega arith)));
          written = (λ _. written ∙ ap (λ k. map (centre_place m.n) list ++ drop k array) (sym long));
          counted = (λ _. count ∙ sym long);
          lacks = (λ _. lacks);
          one = (λ _. one);
          spare = (λ _. spare);
          unwritten = (λ not. absurd (not refl));
          untold = (λ not. absurd (not refl));
        }

-- what is kept

module _ (m : RoundsState) (t : Point) (border : List ℕ) where
  pub kept-outside : (All (IsBorderPlace m.n) border → ⊥) → IsBorderKept m m t border OutsideGrid
  kept-outside none = record {
    outside_grid = ((λ _ h. none h.1), (λ _. refl));
    shrunk = (differ OutsideGrid Shrunk (λ e. omega (arith, e)), (λ h. absurd (none h.1)));
    done = (differ OutsideGrid Done (λ e. omega (arith, e)), (λ h. absurd (none h.1)));
    put = differ OutsideGrid Done (λ e. omega (arith, e));
    others = (λ u a tile other. refl);
    kept = (λ _ u a. refl);
    columns = refl;
    rows = refl;
    n = refl;
    turn = refl;
  }

  module _ (after : RoundsState) (points : BorderState) (tile : IsTile m.columns m.rows t)
      (all : All (IsBorderPlace m.n) border) (says : (a : ℕ) → IsTrue (has_split points a) ↔ IsSaidBy m.n border a)
      (others : (u : Point) (a : ℕ) → IsTile m.columns m.rows u → u ≢ t → splits after u a ≡ splits m u a)
      (columns : after.columns ≡ m.columns) (rows : after.rows ≡ m.rows) (n : after.n ≡ m.n)
      (turn : after.turn ≡ m.turn) where
    pub kept-shrunk : (a : ℕ) × IsTrue (splits m t a) × (has_split points a ≡ false) →
        ((u : Point) (a : ℕ) → splits after u a ≡ splits m u a) → IsBorderKept m after t border Shrunk
    kept-shrunk lost same =
        let unsaid : IsSaidBy m.n border lost.0 → ⊥ =
        λ said. both_ways (has_split points lost.0) lost.2 ((says lost.0).1 said) in record {
          outside_grid = (differ Shrunk OutsideGrid (λ e. omega (arith, e)), (λ none. absurd (none (tile, all))));
          shrunk = ((λ _. (tile, all, (lost.0, lost.1, unsaid))), (λ _. refl));
          done = (differ Shrunk Done (λ e. omega (arith, e)), (λ h. absurd (unsaid (h.2 lost.0 lost.1))));
          put = differ Shrunk Done (λ e. omega (arith, e));
          others = others;
          kept = (λ _. same);
          columns = columns;
          rows = rows;
          n = n;
          turn = turn;
        }

    pub kept-done : ((a : ℕ) × IsTrue (splits m t a) × (has_split points a ≡ false) → ⊥) →
        ((a : ℕ) → splits after t a ≡ has_split points a) → IsBorderKept m after t border Done
    kept-done none put =
        let said : (a : ℕ) → IsTrue (splits m t a) → IsSaidBy m.n border a = λ a is. ⊎_elim
        (λ has. (says a).0 has)
        (λ off. absurd (none (a, is, off)))
        (cases_Bool (has_split points a)) in record {
          outside_grid = (differ Done OutsideGrid (λ e. omega (arith, e)), (λ none. absurd (none (tile, all))));
          shrunk = (differ Done Shrunk (λ e. omega (arith, e)), (λ h. absurd (h.2.2 (said h.2.0 h.2.1))));
          done = ((λ _. (tile, all, said)), (λ _. refl));
          put = (λ _ a. ((λ is. (says a).0 (sym (put a) ∙ is)), (λ h. put a ∙ (says a).1 h)));
          others = others;
          kept = (λ not. absurd (not refl));
          columns = columns;
          rows = rows;
          n = n;
          turn = turn;
        }

-- places of centres, written one after another
pub written_centre : (f : ℕ → ℕ) (xs start out : List ℕ) (i t v : ℕ) → i < length xs → i < length start →
    out ≡ map f (take i xs) ++ drop i start → t ≡ get_or xs i t → v ≡ f t →
    set out i v ≡ map f (take (i + 1) xs) ++ drop (i + 1) start
written_centre f xs start out i t v within room so_far is value =
    let front : List ℕ = map f (take i xs) in
    let long : length front ≡ i = length-map (take i xs) f ∙ omega (arith, length-take i xs) in
    let parts : out ≡ front ++ get_or start i 0 ∷ drop (i + 1) start =
    so_far ∙ ap (λ l. front ++ l) (drop_more start i 0 room) in
    ap (λ l. set l i v) parts ∙ set_at front (get_or start i 0) (drop (i + 1) start) v i long
    ∙ sym (append_assoc front (v ∷ []) (drop (i + 1) start))
    ∙ ap (λ l. l ++ drop (i + 1) start)
    (ap (λ y. front ++ y ∷ []) (value ∙ ap f is) ∙ sym (map_more f xs i t within))
