-- What holds of generated grids, their texts, and the lines of generated scripts.
use Rattle.std.proofs.Common.{ℕ, ◌+◌, ◌-◌, ◌*◌, ◌/◌, ◌%◌, ◌^◌, ◌<◌, ◌≤◌, List, [], length, map, refl, sym, subst, arith}
use Rattle.std.proofs.Common.{lit<, lit≤, length-append}
use Rattle.std.specs.Prelude.{◌==◌, nat_lt}
use Rattle.std.specs.Fmt.{decimal}
use Rattle.std.specs.List.{range_with_len, flat_map}
use Rattle.std.proofs.Math.Nat.{mod-lt, mul-le-mul_right, div-le_self}
use Rattle.std.proofs.lemmas.Fmt.{length-decimal-le}
use Rattle.std.proofs.lemmas.List.FromFn.{length-map-range_with_len, get_or-map-range_with_len}
use Rattle.mesh_defs.specs.HeightField.{IsHeightField, side_of}
use Rattle.pgm_grid.specs.HeaderText.{IsHeaderText}
use Rattle.pgm_grid.specs.HeaderLaws.{WrittenHeadersAreTexts}
use Rattle.text_laws.specs.Words.{two_bytes}
use Rattle.text_laws.proofs.WordLemmas.{length-flat}
use Rattle.std.proofs.lemmas.Bool.{cond_both}
use Rattle.pgm_grid.specs.PgmText.{IsFileText}
use Rattle.roam_gen.specs.Generated.{height_of_place, made_grid, octave_base, camera_line, edit_line}
use Rattle.roam_gen.specs.LineAt.{line_at}
use Rattle.roam_gen.specs.Written.{generated_header, header_text, grid_text}
use Rattle.roam_gen.specs.Laws.{IsMadeLine}
use Rattle.roam_gen.proofs.OctaveLemmas.{octaves-bound, lattice-small, width-small}

-- a generated grid is one
pub made-is_grid : (n seed : ℕ) → 1 ≤ n → n ≤ 11 → IsHeightField (made_grid n seed)
unfolding made_grid
made-is_grid n seed low high =
    let f : ℕ → ℕ = height_of_place n seed in
    let count : ℕ = side_of n * side_of n in
    let long = length-map-range_with_len f 0 count in
    let P : ℕ → Type 0 = λ h. h ≤ 65535 in
    record {
      n_low = low;
      n_high = omega (arith, high);
      maxval_low = lit≤ tt;
      maxval_high = lit≤ tt;
      count = long;
      bounded = λ k d below.
          subst P (sym (get_or-map-range_with_len f 0 count k k d (omega (arith, long, below)) (omega arith)))
          (octaves-bound (n + 1) n seed (k % side_of n) (2 ^ n - k / side_of n) (omega arith));
    }

-- a side is at most 2049
side-small : (n : ℕ) → n ≤ 11 → side_of n ≤ 2049
side-small n high = let small = width-small n high in omega (arith, small)

points-small : (side : ℕ) → side ≤ 2049 → side * side ≤ 4198401
points-small side small =
    let one = mul-le-mul_right side small in
    omega (arith, one, small)

-- the header is that of the format
pub header-is_text : WrittenHeadersAreTexts → (n : ℕ) → n ≤ 11 → IsHeaderText (header_text n) (generated_header n)
header-is_text written n high =
    let small = side-small n high in
    written (generated_header n) [] (omega (arith, small)) (omega (arith, small)) (lit< tt) refl

header-short : (n : ℕ) → n ≤ 11 → length (header_text n) ≤ 65536
header-short n high =
    let small = side-small n high in
    let side : length (decimal (side_of n)) ≤ 4 =
    length-decimal-le 4 (side_of n) (lit< tt) (omega (arith, small)) (omega (arith, small)) in
    let most : length (decimal 65535) ≤ 5 = length-decimal-le 5 65535 (lit< tt) (lit< tt) (lit< tt) in
    omega (arith, length-append {A = ℕ}, side, most)

-- what is written of it is a file text of it
pub made-is_text : (n seed : ℕ) → n ≤ 11 → IsHeaderText (header_text n) (generated_header n) →
    IsFileText (made_grid n seed) (grid_text n seed)
unfolding made_grid
made-is_text n seed high is_text =
    let heights : List ℕ = map (height_of_place n seed) (range_with_len 0 (side_of n * side_of n)) in
    let raster : List ℕ = flat_map two_bytes heights in
    let long = length-map-range_with_len (height_of_place n seed) 0 (side_of n * side_of n) in
    let bytes = length-flat heights in
    let few = points-small (side_of n) (side-small n high) in
    let short = header-short n high in
    record {
      level = high;
      header = header_text n;
      raster = raster;
      values = generated_header n;
      is_header = is_text;
      short_header = short;
      width = refl;
      height = refl;
      maxval = refl;
      is_raster = refl;
      text = refl;
      short = omega (arith, length-append (header_text n) raster, long, bytes, few, short);
    }

-- Lines

-- a part of a side is in reach of the camera
way-small : (n parts : ℕ) → n ≤ 11 → parts ≤ 51 → 2 ^ n * 30 * parts / 51 ≤ 2 ^ 30
way-small n parts high few =
    let small = width-small n high in
    let whole : 2 ^ n * 30 * parts ≤ 61440 * parts = mul-le-mul_right parts (omega (arith, small)) in
    let part = div-le_self (2 ^ n * 30 * parts) 51 in
    omega (arith, whole, part)

camera-made : (n f : ℕ) → n ≤ 11 → f ≤ 51 → IsMadeLine n (camera_line n f)
camera-made n f high few = (way-small n f high few, way-small n (51 - f) high (omega arith), lit≤ tt)

edit-made : (n seed f : ℕ) → IsMadeLine n (edit_line n seed f)
edit-made n seed f =
    let x = mod-lt (7 * f) {m = side_of n} (omega arith) in
    let y = mod-lt (11 * f) {m = side_of n} (omega arith) in
    let h = lattice-small (octave_base seed 0) f f in
    (omega (arith, x), omega (arith, y), omega (arith, h))

-- each line of a generated script lies in its ranges
pub line-made : (n seed i : ℕ) → n ≤ 11 → 1 ≤ i → i ≤ 105 → IsMadeLine n (line_at n seed i)
line-made n seed i high first last =
    let tens : ℕ = (i - 1) / 21 in
    let place : ℕ = (i - 1) % 21 in
    let few : tens ≤ 4 = omega arith in
    let within : place < 21 = omega arith in
    cond_both (nat_lt place 18) _ _ (IsMadeLine n)
    (λ early. cond_both (place % 2 == 0) _ _ (IsMadeLine n)
    (λ even. camera-made n (10 * tens + place / 2 + 1) high (omega (arith, few, within))) (λ odd. tt))
    (λ late. cond_both (place == 18) _ _ (IsMadeLine n) (λ e. camera-made n (10 * tens + 10) high (omega (arith, few)))
    (λ other. cond_both (place == 19) _ _ (IsMadeLine n) (λ e. edit-made n seed (10 * tens + 10)) (λ e. tt)))
