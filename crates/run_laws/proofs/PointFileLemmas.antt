-- How far a file of points was read, byte by byte: what one byte more does to the place that was reached, and what the
-- whole file is.
use Rattle.std.proofs.Common.{◌≡◌, ◌≢◌, ℕ, ◌+◌, ◌<◌, List, [], ◌∷◌, ◌++◌, take, drop, length, Option}
use Rattle.std.proofs.Common.{None, Some, Result, Ok, Err, refl, sym, ◌∙◌, ap, subst, inl, inr, arith}
use Rattle.std.proofs.Common.{append_assoc, append-nil, length-append, All, ◌^◌, ◌≤◌, ⊎_elim}
use Rattle.std.proofs.lemmas.Bool.{cases_lt}
use Rattle.std.proofs.lemmas.List.Elements.{All-from_recursion, All-nil, All-cons, All-append}
use Rattle.mesh_defs.specs.declared.point.Point.{Point}
use Rattle.bintree_laws.specs.Corners.{IsInSquare}
use Rattle.roam_script.specs.declared.limits.TheConstants.{MOST_LINE_BYTES}
use Rattle.roam_script.specs.declared.script_fault.ScriptFault.{ScriptFault}
use Rattle.roam_script.specs.declared.script_fault.ScriptFault.TheVariants.{TooManyLines}
use Rattle.roam_script.specs.PointText.{most_points, point_in, PointsAreInGrid, LatePointsAreTooMany}
use Rattle.run_laws.specs.Walk.{Refusal, lines_of}
use Rattle.run_laws.specs.PointFile.{with_point, points_behind, points_in, PointPlace, HavePointsCome, PointsHaveRead}
use Rattle.run_laws.proofs.LineLemmas.{NoEnd, no_end, no_end-append, lines_of-ends, lines_of-only, lines_of-begins}
use Rattle.run_laws.proofs.LineLemmas.{BeginsWith}
use Rattle.run_laws.proofs.CertFileLemmas.{place, lines_of-whole, lines-counted}

-- what a line leads to

-- the line of this number is refused
abbrev pub refusal_at : ℕ → ScriptFault → Refusal
refusal_at number why = record { line = number; fault = why }

-- what the next line says, and those behind it
abbrev points_next : ℕ → ℕ → List Point → List (List ℕ) → Result (Option Point) ScriptFault
    → Result (List Point) Refusal
points_next n number points lines answer = elim answer as (λ _. Result (List Point) Refusal) [
  | Err why ↦ Err (refusal_at number why)
  | Ok at ↦ points_behind n (number + 1) (with_point points at) lines
]

no-refusal : (why : Refusal) (points : List Point) → let refused : Result (List Point) Refusal = Err why in
    refused ≡ Ok points → ⊥
no-refusal why points e = cc

same-points : (one other : List Point) → let points : Result (List Point) Refusal = Ok one in points ≡ Ok other →
    one ≡ other
same-points one other e = cc

-- behind accepted lines the others go on
points_behind-append : (n number : ℕ) (points last : List Point) (xs ys : List (List ℕ)) →
    points_behind n number points xs ≡ Ok last
    → points_behind n number points (xs ++ ys) ≡ points_behind n (number + length xs) last ys
points_behind-append n number points last [] ys is =
    ap (λ (s : List Point). points_behind n number s ys) (same-points points last is)
    ∙ ap (λ (k : ℕ). points_behind n k last ys) (omega arith)
points_behind-append n number points last (x ∷ xs) ys is =
    go (point_in n number x)
    (λ at e. points_behind-append n (number + 1) (with_point points at) last xs ys e) is
  where
    go : (answer : Result (Option Point) ScriptFault) → ((at : Option Point) →
        points_behind n (number + 1) (with_point points at) xs ≡ Ok last
        → points_behind n (number + 1) (with_point points at) (xs ++ ys)
        ≡ points_behind n (number + 1 + length xs) last ys)
        → points_next n number points xs answer ≡ Ok last →
        points_next n number points (xs ++ ys) answer ≡ points_behind n (number + length (x ∷ xs)) last ys
    go (Err why) rest e = absurd (no-refusal (refusal_at number why) last e)
    go (Ok at) rest e = rest at e ∙ ap (λ (k : ℕ). points_behind n k last ys) (omega arith)

-- the file is what its lines come to
points-lines : (n : ℕ) (bytes : List ℕ) → points_in n bytes ≡ points_behind n 1 [] (lines_of bytes)
unfolding points_in
points-lines n bytes = refl

-- points of the grid

-- the points of lines are points of the grid
behind-in_grid : PointsAreInGrid → (n number : ℕ) (points last : List Point) (lines : List (List ℕ)) →
    All (λ p. IsInSquare (2 ^ n) p) points → points_behind n number points lines ≡ Ok last →
    All (λ p. IsInSquare (2 ^ n) p) last
behind-in_grid law n number points last [] inside is =
    subst (λ (l : List Point). All (λ p. IsInSquare (2 ^ n) p) l) (same-points points last is) inside
behind-in_grid law n number points last (x ∷ lines) inside is =
    go (point_in n number x) refl
    (λ at e. behind-in_grid law n (number + 1) (with_point points at) last lines e) is
  where
    more : (at : Option Point) → point_in n number x ≡ Ok at → All (λ p. IsInSquare (2 ^ n) p) (with_point points at)
    more None read = inside
    more (Some at) read =
        let within = law n number x at read in
        All-append (λ p. IsInSquare (2 ^ n) p) points (at ∷ []) inside
        (All-cons (λ p. IsInSquare (2 ^ n) p) at [] (record { x = within.0; y = within.1 })
        (All-nil (λ p. IsInSquare (2 ^ n) p)))

    go : (answer : Result (Option Point) ScriptFault) → point_in n number x ≡ answer →
        ((at : Option Point) → All (λ p. IsInSquare (2 ^ n) p) (with_point points at) →
        points_behind n (number + 1) (with_point points at) lines ≡ Ok last → All (λ p. IsInSquare (2 ^ n) p) last)
        → points_next n number points lines answer ≡ Ok last → All (λ p. IsInSquare (2 ^ n) p) last
    go (Err why) read rest e = absurd (no-refusal (refusal_at number why) last e)
    go (Ok at) read rest e = rest at (more at read) e

-- so are those of a file
pub points-in_grid : PointsAreInGrid → (n : ℕ) (bytes : List ℕ) (points : List Point) → points_in n bytes ≡ Ok points →
    All (λ p. IsInSquare (2 ^ n) p) points
points-in_grid law n bytes points is =
    behind-in_grid law n 1 [] points (lines_of bytes) (All-nil (λ p. IsInSquare (2 ^ n) p))
    (sym (points-lines n bytes) ∙ is)

-- and there are no more than the grid has

-- there are no more points than lines, and no more lines than there may be
behind-few : LatePointsAreTooMany → (n number : ℕ) (points last : List Point) (lines : List (List ℕ)) →
    length points + 1 ≤ number → number ≤ most_points n + 1 → points_behind n number points lines ≡ Ok last →
    length last ≤ most_points n
behind-few law n number points last [] few most is =
    let same = ap (λ (l : List Point). length l) (same-points points last is) in
    omega (arith, few, most, same)
behind-few law n number points last (x ∷ lines) few most is =
    go (point_in n number x) refl
    (λ at. behind-few law n (number + 1) (with_point points at) last lines) is
  where
    more : (at : Option Point) → length (with_point points at) + 1 ≤ number + 1
    more None = omega (arith, few)
    more (Some at) = let e = length-append points (at ∷ []) in omega (arith, few, e)

    fits : (answer : Option Point) → point_in n number x ≡ Ok answer → number ≤ most_points n
    fits answer read = ⊎_elim
        (λ late. absurd (differ (sym ((law n number x).1 late) ∙ read)))
        (λ in_time. in_time)
        (cases_lt (most_points n) number)
      where
        differ : (let late : Result (Option Point) ScriptFault = Err TooManyLines in late) ≡ Ok answer → ⊥
        differ e = cc

    go : (answer : Result (Option Point) ScriptFault) → point_in n number x ≡ answer →
        ((at : Option Point) → length (with_point points at) + 1 ≤ number + 1 → number + 1 ≤ most_points n + 1 →
        points_behind n (number + 1) (with_point points at) lines ≡ Ok last → length last ≤ most_points n)
        → points_next n number points lines answer ≡ Ok last → length last ≤ most_points n
    go (Err why) read rest e = absurd (no-refusal (refusal_at number why) last e)
    go (Ok at) read rest e = rest at (more at) (let fit = fits at read in omega (arith, fit)) e

-- a file has no more points than the grid
pub points-few : LatePointsAreTooMany → (n : ℕ) (bytes : List ℕ) (points : List Point) → points_in n bytes ≡ Ok points →
    length points ≤ most_points n
points-few law n bytes points is =
    behind-few law n 1 [] points (lines_of bytes) (omega arith) (omega arith) (sym (points-lines n bytes) ∙ is)

-- the place that was reached

-- nothing was read
pub points-begin : (n : ℕ) → HavePointsCome n [] (place [] 0 [])
unfolding points_in
points-begin n = record {
  whole = [];
  cut = refl;
  ended = inl refl;
  accepted = refl;
  counted = refl;
  one_line = All-from_recursion (λ byte. byte ≢ 10) [] tt;
  short = omega arith;
  last = inl refl;
}

-- of nothing that was read a line is refused
pub points-nothing : (n : ℕ) → PointsHaveRead n []
points-nothing n = (place [] 0 [], points-begin n)

module _ (n : ℕ) (read : List ℕ) (here : PointPlace) (come : HavePointsCome n read here) where
  begun-ends : NoEnd here.begun
  begun-ends = no_end here.begun come.one_line

  -- what was read, and more, leads on from the place
  points-come : (more : List ℕ) →
      points_in n (read ++ more) ≡ points_behind n (here.lines + 1) here.said (lines_of (here.begun ++ more))
  points-come more =
      ap (λ (l : List ℕ). points_in n (l ++ more)) come.cut
      ∙ (ap (points_in n) (append_assoc come.whole here.begun more)
      ∙ (points-lines n (come.whole ++ (here.begun ++ more))
      ∙ (ap (λ (l : List (List ℕ)). points_behind n 1 [] l)
      (lines_of-whole come.whole (here.begun ++ more) come.ended)
      ∙ (points_behind-append n 1 [] here.said (lines_of come.whole) (lines_of (here.begun ++ more))
      (sym (points-lines n come.whole) ∙ come.accepted)
      ∙ ap (λ (k : ℕ). points_behind n k here.said (lines_of (here.begun ++ more))) (omega (arith, come.counted))))))

  -- what the line and its LF lead to
  points-ended : (more : List ℕ) → points_in n ((read ++ 10 ∷ []) ++ more)
      ≡ points_behind n (here.lines + 1) here.said (here.begun ∷ lines_of more)
  points-ended more =
      ap (points_in n) (append_assoc read (10 ∷ []) more)
      ∙ (points-come (10 ∷ more) ∙ ap (λ (l : List (List ℕ)). points_behind n (here.lines + 1) here.said l)
      (lines_of-ends here.begun more begun-ends))

  -- an accepted line was read
  pub point-line : (at : Option Point) → point_in n (here.lines + 1) here.begun ≡ Ok at →
      HavePointsCome n (read ++ 10 ∷ []) (place (with_point here.said at) (here.lines + 1) [])
  point-line at is = record {
    whole = read ++ 10 ∷ [];
    cut = sym (append-nil (read ++ 10 ∷ []));
    ended = inr (read, refl);
    accepted = ap (points_in n) (sym (append-nil (read ++ 10 ∷ [])))
        ∙ (points-ended [] ∙ ap (points_next n (here.lines + 1) here.said []) is);
    counted = lines-counted read come.whole here.begun here.lines come.cut come.ended begun-ends come.counted;
    one_line = All-from_recursion (λ byte. byte ≢ 10) [] tt;
    short = omega arith;
    last = inl refl;
  }

  -- a line that ended is refused, whatever follows
  pub point-refused : (why : ScriptFault) → point_in n (here.lines + 1) here.begun ≡ Err why → (more : List ℕ) →
      points_in n ((read ++ 10 ∷ []) ++ more) ≡ Err (refusal_at (here.lines + 1) why)
  point-refused why is more =
      points-ended more ∙ ap (points_next n (here.lines + 1) here.said (lines_of more)) is

  -- one byte more of a line
  pub point-byte : (byte : ℕ) → byte ≢ 10 → length here.begun < MOST_LINE_BYTES → here.lines < most_points n →
      HavePointsCome n (read ++ byte ∷ []) (place here.said here.lines (here.begun ++ byte ∷ []))
  point-byte byte other room few = record {
    whole = come.whole;
    cut = ap (λ (l : List ℕ). l ++ byte ∷ []) come.cut ∙ append_assoc come.whole here.begun (byte ∷ []);
    ended = come.ended;
    accepted = come.accepted;
    counted = come.counted;
    one_line = All-from_recursion (λ b. b ≢ 10) (here.begun ++ byte ∷ [])
        (no_end-append here.begun byte begun-ends other);
    short = (let e = length-append here.begun (byte ∷ []) in omega (arith, e, room));
    last = inr (omega (arith, few));
  }

  -- a byte with which a line is refused, whatever follows it there, refuses the file
  pub point-settled : (byte : ℕ) (why : ScriptFault) → byte ≢ 10
      → ((tail : List ℕ) → point_in n (here.lines + 1) ((here.begun ++ byte ∷ []) ++ tail) ≡ Err why) →
      (more : List ℕ) → points_in n ((read ++ byte ∷ []) ++ more) ≡ Err (refusal_at (here.lines + 1) why)
  point-settled byte why other settled more =
      ap (points_in n) (append_assoc read (byte ∷ []) more)
      ∙ (points-come (byte ∷ more)
      ∙ (ap (λ (l : List ℕ). points_behind n (here.lines + 1) here.said (lines_of l))
      (sym (append_assoc here.begun (byte ∷ []) more))
      ∙ begins (here.begun ++ byte ∷ []) (no_end-append here.begun byte begun-ends other)
      (let e = length-append here.begun (byte ∷ []) in omega (arith, e)) settled))
    where
      begins : (part : List ℕ) → NoEnd part → 0 < length part
          → ((tail : List ℕ) → point_in n (here.lines + 1) (part ++ tail) ≡ Err why) →
          points_behind n (here.lines + 1) here.said (lines_of (part ++ more))
          ≡ Err (refusal_at (here.lines + 1) why)
      begins [] one some is = absurd (omega (arith, some))
      begins (b ∷ part) one some is =
          let begun : BeginsWith (b ∷ part) (lines_of (b ∷ (part ++ more))) = lines_of-begins b part more one in
          ap (λ (l : List (List ℕ)). points_behind n (here.lines + 1) here.said l) begun.2
          ∙ ap (points_next n (here.lines + 1) here.said begun.1) (is begun.0)

  -- the file ends behind whole lines
  pub points-end : here.begun ≡ [] → points_in n read ≡ Ok here.said
  points-end none =
      ap (points_in n) (sym (append-nil read))
      ∙ (points-come []
      ∙ ap (λ (l : List ℕ). points_behind n (here.lines + 1) here.said (lines_of (l ++ []))) none)

  -- or in a line, which it ends as an LF does
  points-last : here.begun ≢ [] →
      points_in n read ≡ points_behind n (here.lines + 1) here.said (here.begun ∷ [])
  points-last some =
      ap (points_in n) (sym (append-nil read))
      ∙ (points-come []
      ∙ (ap (λ (l : List ℕ). points_behind n (here.lines + 1) here.said (lines_of l)) (append-nil here.begun)
      ∙ ap (λ (l : List (List ℕ)). points_behind n (here.lines + 1) here.said l)
      (lines_of-only here.begun begun-ends some)))

  -- where the last line has no LF and is accepted, the file is the points with its own
  pub points-closed : (at : Option Point) → here.begun ≢ [] → point_in n (here.lines + 1) here.begun ≡ Ok at →
      points_in n read ≡ Ok (with_point here.said at)
  points-closed at some is = points-last some ∙ ap (points_next n (here.lines + 1) here.said []) is

  -- and where it is refused, so is the file
  pub points-refused : (why : ScriptFault) → here.begun ≢ [] → point_in n (here.lines + 1) here.begun ≡ Err why →
      points_in n read ≡ Err (refusal_at (here.lines + 1) why)
  points-refused why some is = points-last some ∙ ap (points_next n (here.lines + 1) here.said []) is
