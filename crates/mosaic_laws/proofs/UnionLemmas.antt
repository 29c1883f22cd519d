-- Lists: a conforming list that is as fine as the tiles' quarters is the tiles' conforming lists, and conforming lists
-- of the tiles that agree are one conforming list.
use Rattle.std.proofs.Common.{◌≡◌, ℕ, ◌+◌, ◌*◌, ◌/◌, ◌^◌, ◌<◌, ◌≤◌, Bool, eqb, IsTrue}
use Rattle.std.proofs.Common.{List, count_by, refl, sym, ◌∙◌, ap, subst, arith, ⊎_elim, eq-eqb}
use Rattle.std.proofs.lemmas.Bool.{cases_lt, eqb-true}
use Rattle.std.proofs.lemmas.List.Elements.{All-contains}
use Rattle.mesh_defs.specs.declared.point.Point.{Point}
use Rattle.mesh_defs.specs.Triangle.{level_of, IsAddress}
use Rattle.mesh_defs.specs.Tiling.{IsConforming}
use Rattle.mesh_defs.specs.ClosedSet.{IsClosed, IsSubset, leaves_of}
use Rattle.mesh_defs.proofs.ListLemmas.{IsIn, IsIn-contains, Contains-in, count-some, some-count}
use Rattle.bintree_laws.proofs.LevelLemmas.{level_of-parent, level_of-first}
use Rattle.mesh_laws.specs.Ancestors.{ancestors_of, AreLeaves}
use Rattle.mesh_laws.proofs.DescentLemmas.{IsAddress-level, IsAddress-leaves_of}
use Rattle.mesh_laws.proofs.ConverseLemmas.{IsCovered, member_or_covered, level-under}
use Rattle.mesh_laws.proofs.ConverseLemmas.{IsClosed-ancestors_of, AreLeaves-ancestors_of}
use Rattle.mesh_laws.proofs.PermutedLemmas.{IsConforming-permuted}
use Rattle.mesh_laws.proofs.ClosureLemmas.{IsOuter, leaf-outer, leaves_of-same}
use Rattle.mesh_laws.proofs.LeafLemmas.{leaf-once}
use Rattle.fit_laws.proofs.SettledLemmas.{outer-leaf}
use Rattle.mosaic_laws.specs.Tile.{IsTile, in_tile, is_part}
use Rattle.mosaic_laws.specs.Glue.{is_coarse, tile_of, local_of, glue, splits_of, IsAgreed, IsFineAs, IsPartOf, IsUnionOf}
use Rattle.mosaic_laws.proofs.AddressLemmas.{in_tile-level, in_tile-big, in_tile-parent, in_tile-address}
use Rattle.mosaic_laws.proofs.AddressLemmas.{tile-is, local-big, local-address, in_tile-local}
use Rattle.mosaic_laws.proofs.ClosedLemmas.{coarse-parts, coarse-from, coarse-n, part-first, part-out, part-from}
use Rattle.mosaic_laws.proofs.ClosedLemmas.{part-closed}
use Rattle.mosaic_laws.proofs.ClosedLemmas.{glue-coarse, glue-closed, part-glue}

-- counts

-- an entry counts
pub in-counts : (a : ℕ) (xs : List ℕ) → IsIn a xs → 1 ≤ count_by (λ x. eqb x a) xs
in-counts a xs listed = count-some (λ x. eqb x a) a xs listed (eq-eqb a a refl)

-- and what counts is an entry
pub counts-listed : (a : ℕ) (xs : List ℕ) → 1 ≤ count_by (λ x. eqb x a) xs → IsIn a xs
counts-listed a xs some =
    let found = some-count (λ x. eqb x a) xs some in
    subst (λ z. IsIn z xs) (eqb-true found.0 a found.2) found.1

-- two lists that have an entry once at most count it alike if one has it where the other does
once-alike : (a c : ℕ) (xs ys : List ℕ) → count_by (λ x. eqb x a) xs ≤ 1 → count_by (λ x. eqb x c) ys ≤ 1 →
    (IsIn a xs → IsIn c ys) → (IsIn c ys → IsIn a xs) → count_by (λ x. eqb x a) xs ≡ count_by (λ x. eqb x c) ys
once-alike a c xs ys few less there back = ⊎_elim
    (λ (none : count_by (λ x. eqb x a) xs < 1). ⊎_elim
    (λ (also : count_by (λ x. eqb x c) ys < 1). omega arith)
    (λ (some : 1 ≤ count_by (λ x. eqb x c) ys).
    let one = in-counts a xs (back (counts-listed c ys some)) in absurd (omega arith))
    (cases_lt (count_by (λ x. eqb x c) ys) 1))
    (λ (some : 1 ≤ count_by (λ x. eqb x a) xs).
    let one = in-counts c ys (there (counts-listed a xs some)) in omega arith)
    (cases_lt (count_by (λ x. eqb x a) xs) 1)

-- outer triangles

module _ (n p : ℕ) (t : Point) (has : ℕ → Bool) (coarse : IsSubset (is_coarse p) has) where
  -- what is not in the part is neither 2 nor 3
  pub outer-big : (a : ℕ) → IsOuter n (is_part p t has) a → 4 ≤ a
  outer-big a outer = ⊎_elim
      (λ (less : a < 4). absurd (outer.outside (part-first p t has a outer.address.low less)))
      (λ big. big)
      (cases_lt a 4)

  -- the triangle of an outer triangle of the part is one of the whole
  pub part-outer : (a : ℕ) → IsOuter n (is_part p t has) a → IsOuter (n + p) has (in_tile p t a)
  part-outer a outer =
      let low : 4 ≤ a = outer-big a outer in
      let level = in_tile-level p t a low in
      record {
        address = in_tile-address p t n a low outer.address;
        outside = λ is. outer.outside (part-from p t has a outer.address.low is);
        parent = λ big. ⊎_elim
            (λ (small : a < 8).
            let e = level_of-parent (in_tile p t a) big in
            let z = level_of-first a low small in
            coarse (in_tile p t a / 2) (coarse-from p (in_tile p t a / 2) (omega arith) (omega arith)))
            (λ (large : 8 ≤ a).
            subst (λ z. IsTrue (has z)) (sym (in_tile-parent p t a large).0)
            (part-out p t has (a / 2) (omega arith) (outer.parent low)))
            (cases_lt a 8);
      }

  -- and the other way round
  pub outer-part : (a : ℕ) → 4 ≤ a → IsAddress n a → IsOuter (n + p) has (in_tile p t a) →
      IsOuter n (is_part p t has) a
  outer-part a low address outer = record {
    address = address;
    outside = λ is. outer.outside (part-out p t has a low is);
    parent = λ big. ⊎_elim
        (λ (small : a < 8). part-first p t has (a / 2) (omega arith) (omega arith))
        (λ (large : 8 ≤ a).
        let e = in_tile-parent p t a large in
        part-from p t has (a / 2) (omega arith)
        (subst (λ z. IsTrue (has z)) e.0 (outer.parent (in_tile-big p t a low))))
        (cases_lt a 8);
  }

-- leaves

-- the leaves of a part are the leaves of the whole in the tile
pub part-leaves : (n p : ℕ) (t : Point) (has : ℕ → Bool) (a : ℕ) → IsTile (2 ^ p) (2 ^ p) t → IsClosed (n + p) has →
    IsSubset (is_coarse p) has → IsAddress n a → 4 ≤ a →
    count_by (λ x. eqb x a) (leaves_of n (is_part p t has))
    ≡ count_by (λ x. eqb x (in_tile p t a)) (leaves_of (n + p) has)
part-leaves n p t has a tile closed coarse address big =
    let part : IsClosed n (is_part p t has) = part-closed n p t has tile (coarse-n n p has closed coarse) closed in
    once-alike a (in_tile p t a) (leaves_of n (is_part p t has)) (leaves_of (n + p) has)
    (leaf-once n (is_part p t has) a) (leaf-once (n + p) has (in_tile p t a))
    (λ leaf. leaf-outer (n + p) has (in_tile p t a) closed
    (part-outer n p t has coarse a (outer-leaf n (is_part p t has) a part leaf)))
    (λ leaf. leaf-outer n (is_part p t has) a part
    (outer-part n p t has coarse a big address (outer-leaf (n + p) has (in_tile p t a) closed leaf)))

-- from the large list to the tiles'

-- what is coarse is split in a list that is as fine as the quarters
pub fine-coarse : (n p : ℕ) (triangles : List ℕ) → 1 ≤ n → IsConforming (n + p) triangles → IsFineAs p triangles →
    IsSubset (is_coarse p) (ancestors_of triangles)
fine-coarse n p triangles some conforming fine x h =
    let q = coarse-parts p x h in
    ⊎_elim
    (λ above. above)
    (λ (c : IsCovered (n + p) triangles conforming x).
    let deep = fine c.entry (Contains-in c.entry triangles c.listed) in
    let le = level-under c.entry x c.under in absurd (omega arith))
    (member_or_covered (n + p) triangles conforming x (IsAddress-level (n + p) x q.0 (omega arith)))

module _ (n p : ℕ) (t : Point) (triangles : List ℕ) (tile : IsTile (2 ^ p) (2 ^ p) t) (some : 1 ≤ n)
    (conforming : IsConforming (n + p) triangles) (fine : IsFineAs p triangles) where
  -- what is split in a tile
  abbrev split : ℕ → Bool
  split = is_part p t (ancestors_of triangles)

  split-closed : IsClosed n split
  split-closed = part-closed n p t (ancestors_of triangles) tile some
      (IsClosed-ancestors_of (n + p) triangles conforming)

  split-counts : (a : ℕ) → IsAddress n a → 4 ≤ a →
      count_by (λ x. eqb x a) (leaves_of n split) ≡ count_by (λ x. eqb x (in_tile p t a)) triangles
  split-counts a address big =
      part-leaves n p t (ancestors_of triangles) a tile (IsClosed-ancestors_of (n + p) triangles conforming)
      (fine-coarse n p triangles some conforming fine) address big
      ∙ (AreLeaves-ancestors_of (n + p) triangles conforming).counts (in_tile p t a)

  split-address : (a : ℕ) → IsIn a (leaves_of n split) → IsAddress n a × (4 ≤ a)
  split-address a listed = (
    All-contains (IsAddress n) (leaves_of n split) a (IsAddress-leaves_of n split)
        (Contains-in a (leaves_of n split) listed),
    outer-big n p t (ancestors_of triangles) (fine-coarse n p triangles some conforming fine) a
        (outer-leaf n split a split-closed listed),
  )

  -- there is a list of the tile's triangles
  pub part-found : IsPartOf n p t triangles (leaves_of n split)
  part-found = record {
    addresses = λ a listed. split-address a (IsIn-contains a (leaves_of n split) listed);
    counts = split-counts;
  }

  -- each such list has the leaves of what is split in the tile
  pub part-are_leaves : (part : List ℕ) → IsPartOf n p t triangles part → AreLeaves n split part
  part-are_leaves part is = record {
    counts = λ a. ⊎_elim
        (λ (none : count_by (λ x. eqb x a) (leaves_of n split) < 1). ⊎_elim
        (λ (also : count_by (λ x. eqb x a) part < 1). omega arith)
        (λ (some : 1 ≤ count_by (λ x. eqb x a) part).
        let address = is.addresses a (Contains-in a part (counts-listed a part some)) in
        split-counts a address.0 address.1 ∙ sym (is.counts a address.0 address.1))
        (cases_lt (count_by (λ x. eqb x a) part) 1))
        (λ (some : 1 ≤ count_by (λ x. eqb x a) (leaves_of n split)).
        let address = split-address a (counts-listed a (leaves_of n split) some) in
        split-counts a address.0 address.1 ∙ sym (is.counts a address.0 address.1))
        (cases_lt (count_by (λ x. eqb x a) (leaves_of n split)) 1);
  }

  -- so it is conforming
  pub part-conforming : (part : List ℕ) → IsPartOf n p t triangles part → IsConforming n part
  part-conforming part is = IsConforming-permuted n split part split-closed (part-are_leaves part is)

-- from the tiles' lists to the large one

module _ (n p : ℕ) (lists : Point → List ℕ)
    (conforming : (t : Point) → IsTile (2 ^ p) (2 ^ p) t → IsConforming n (lists t))
    (centres : (t : Point) → IsTile (2 ^ p) (2 ^ p) t → IsTrue (ancestors_of (lists t) 2))
    (agreed : IsAgreed (2 ^ p) (2 ^ p) n p (splits_of lists)) where
  closed : (t : Point) → IsTile (2 ^ p) (2 ^ p) t → IsClosed n (ancestors_of (lists t))
  closed t tile = IsClosed-ancestors_of n (lists t) (conforming t tile)

  whole : IsClosed (n + p) (glue p (splits_of lists))
  whole = glue-closed n p (splits_of lists) closed centres agreed

  coarse : IsSubset (is_coarse p) (glue p (splits_of lists))
  coarse x h = let q = coarse-parts p x h in glue-coarse p (splits_of lists) x q.0 q.1

  -- the leaves of all together are those of the lists
  whole-counts : (t : Point) (a : ℕ) → IsTile (2 ^ p) (2 ^ p) t → IsAddress n a → 4 ≤ a →
      count_by (λ x. eqb x (in_tile p t a)) (leaves_of (n + p) (glue p (splits_of lists)))
      ≡ count_by (λ x. eqb x a) (lists t)
  whole-counts t a tile address big =
      sym (part-leaves n p t (glue p (splits_of lists)) a tile whole coarse address big)
      ∙ ap (λ (l : List ℕ). count_by (λ x. eqb x a) l)
      (leaves_of-same n (is_part p t (glue p (splits_of lists))) (ancestors_of (lists t))
      (part-glue n p (splits_of lists) t tile (closed t tile) (centres t tile)))
      ∙ (AreLeaves-ancestors_of n (lists t) (conforming t tile)).counts a

  -- and none is coarse
  whole-fine : (x : ℕ) → IsIn x (leaves_of (n + p) (glue p (splits_of lists))) →
      IsAddress (n + p) x × (2 * p < level_of x)
  whole-fine x leaf =
      let outer = outer-leaf (n + p) (glue p (splits_of lists)) x whole leaf in (
        outer.address,
        ⊎_elim
            (λ less. absurd (outer.outside (glue-coarse p (splits_of lists) x outer.address.low less)))
            (λ (deep : 2 * p + 1 ≤ level_of x). omega arith)
            (cases_lt (level_of x) (2 * p + 1)),
      )

  -- there is a union
  pub union-found : IsUnionOf n p lists (leaves_of (n + p) (glue p (splits_of lists)))
  union-found = record {
    fine = λ x listed. whole-fine x (IsIn-contains x (leaves_of (n + p) (glue p (splits_of lists))) listed);
    counts = whole-counts;
  }

  -- each union has the leaves of all together
  pub union-are_leaves : (triangles : List ℕ) → IsUnionOf n p lists triangles →
      AreLeaves (n + p) (glue p (splits_of lists)) triangles
  union-are_leaves triangles is = record {
    counts = λ x. ⊎_elim
        (λ (none : count_by (λ y. eqb y x) (leaves_of (n + p) (glue p (splits_of lists))) < 1). ⊎_elim
        (λ (also : count_by (λ y. eqb y x) triangles < 1). omega arith)
        (λ (some : 1 ≤ count_by (λ y. eqb y x) triangles).
        let f = is.fine x (Contains-in x triangles (counts-listed x triangles some)) in
        alike x f.0 f.1)
        (cases_lt (count_by (λ y. eqb y x) triangles) 1))
        (λ (some : 1 ≤ count_by (λ y. eqb y x) (leaves_of (n + p) (glue p (splits_of lists)))).
        let f = whole-fine x (counts-listed x (leaves_of (n + p) (glue p (splits_of lists))) some) in
        alike x f.0 f.1)
        (cases_lt (count_by (λ y. eqb y x) (leaves_of (n + p) (glue p (splits_of lists)))) 1);
  }
    where
      alike : (x : ℕ) → IsAddress (n + p) x → 2 * p < level_of x →
          count_by (λ y. eqb y x) (leaves_of (n + p) (glue p (splits_of lists))) ≡ count_by (λ y. eqb y x) triangles
      alike x address deep =
          let tile = tile-is p x address.low deep in
          let local = local-address p x address.low deep n address in
          let big = local-big p x address.low deep in
          subst (λ z. count_by (λ y. eqb y z) (leaves_of (n + p) (glue p (splits_of lists)))
          ≡ count_by (λ y. eqb y z) triangles) (in_tile-local p x address.low deep)
          (whole-counts (tile_of p x) (local_of p x) tile local big
          ∙ sym (is.counts (tile_of p x) (local_of p x) tile local big))

  -- so it is conforming
  pub union-conforming : (triangles : List ℕ) → IsUnionOf n p lists triangles → IsConforming (n + p) triangles
  union-conforming triangles is =
      IsConforming-permuted (n + p) (glue p (splits_of lists)) triangles whole (union-are_leaves triangles is)
