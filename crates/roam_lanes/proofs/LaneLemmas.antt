-- Facts about the lanes of a vector and the samples that they stand for.
use Rattle.std.proofs.Common.{◌≡◌, ℕ, zero, suc, ◌+◌, ◌-◌, ◌*◌, ◌/◌, ◌%◌, ◌^◌, ◌<◌, ◌≤◌, Bool, false, not, cond, ltb}
use Rattle.std.proofs.Common.{List, [], ◌∷◌, ◌++◌, length, take, drop, get_or, map, replicate, refl, ap, ap₂, arith}
use Rattle.std.proofs.Common.{sym, subst, ◌∙◌, append_assoc, All, w16, Fits, ℤ, pos, negsuc, ◌<ℤ◌, unsigned_abs, nat_eq}
use Rattle.std.proofs.Common.{set, min, max, Option, slice_get, IsSomeAnd, ⊎_elim, take-add, length-take-le}
use Rattle.std.proofs.Common.{length-drop, take-append-drop}
use Rattle.std.specs.List.{Contains}
use Rattle.std.specs.Simd.Lanes.{zip2, top, mask_l, chunk, pick_l, number_l, digits_l, Each1, put_chunk, sel_l}
use Rattle.std.proofs.lemmas.List.{take_more, take_more_set, length-map, drop_all, take_all, append-nil, take_rest}
use Rattle.std.proofs.lemmas.List.{get_or-drop, drop-drop, drop-set-lt, map-append}
use Rattle.std.proofs.lemmas.Bool.{eqb-true, not-false, ltb-false, lt-ltb, le-ltb, cases_lt}
use Rattle.std.proofs.lemmas.Bool.Decides.{nat_tests}
use Rattle.std.proofs.lemmas.Slice.{take-put_mid, drop-put_mid}
use borrow.Rule.Slice.PartMut.{put_mid}
use Rattle.std.proofs.lemmas.List.Elements.{All-nil, All-cons, All-head, All-tail, All-append, All-same, All-weaker}
use Rattle.std.proofs.lemmas.List.Elements.{All-contains, All-contains_itself, Contains-append_left}
use Rattle.std.proofs.lemmas.List.Elements.{Contains-append_right, Contains-append_cases, Contains-push}
use Rattle.std.proofs.lemmas.List.Elements.{Contains-get_or}
use Rattle.std.proofs.lemmas.Simd.{tops_compared, zip2_splat_left, mask_l-mod, none_from_empty_mask, put_chunk_whole}
use Rattle.std.proofs.lemmas.Simd.{length-chunk}
use Rattle.roam_lanes.specs.Raising.{brought_into, raised}
use Rattle.std.proofs.lemmas.Int.{ints}
use Rattle.text_laws.specs.Words.{words_of}
use Rattle.text_laws.proofs.WordLemmas.{words-append, length-words}
use Rattle.roam_lanes.specs.Extremes.{IsLeast, IsGreatest}

-- ---- samples of two bytes

-- the bytes of each pair, exchanged
abbrev pub exchanged : List ℕ → List ℕ
exchanged [] = []
exchanged (high ∷ []) = []
exchanged (high ∷ low ∷ bytes) = low ∷ high ∷ exchanged bytes

abbrev IsByte : ℕ → Type 0
IsByte b = b < 256

-- a lane of two bytes, the least significant first
one_word : (low high rest : ℕ) → low < 256 → high < 256 →
    ((low + 256 * (high + 256 * rest)) % 65536 ≡ 256 * high + low) × ((low + 256 * (high + 256 * rest)) / 65536 ≡ rest)
one_word low high rest l h = (omega arith, omega arith)

-- read least significant first, the exchanged bytes are the samples
pub words-exchanged : (bytes : List ℕ) (k : ℕ) → length bytes ≡ 2 * k → All (λ b. b < 256) bytes →
    digits_l 65536 k (number_l 256 (exchanged bytes)) ≡ words_of bytes
words-exchanged [] zero e bound = refl
words-exchanged [] (suc k) e bound = absurd (omega arith)
words-exchanged (high ∷ []) k e bound = absurd (omega arith)
words-exchanged (high ∷ low ∷ bytes) zero e bound = absurd (omega arith)
words-exchanged (high ∷ low ∷ bytes) (suc k) e bound =
    let rest : All IsByte (low ∷ bytes) = All-tail IsByte high (low ∷ bytes) bound in
    let word = one_word low high (number_l 256 (exchanged bytes)) (All-head IsByte low bytes rest)
    (All-head IsByte high (low ∷ bytes) bound) in
    ap₂ (λ (x : ℕ) (xs : List ℕ). x ∷ xs) word.0
    (ap (λ (m : ℕ). digits_l 65536 k m) word.1 ∙ words-exchanged bytes k (omega arith) (All-tail IsByte low bytes rest))

-- the shuffle of a block exchanges the bytes of each pair
pub shuffled : (bytes : List ℕ) → length bytes ≡ 16 → pick_l 0 (bytes ++ bytes)
    (1 ∷ 0 ∷ 3 ∷ 2 ∷ 5 ∷ 4 ∷ 7 ∷ 6 ∷ 9 ∷ 8 ∷ 11 ∷ 10 ∷ 13 ∷ 12 ∷ 15 ∷ 14 ∷ []) ≡ exchanged bytes
shuffled (a ∷ b ∷ c ∷ d ∷ e ∷ f ∷ g ∷ h ∷ i ∷ j ∷ k ∷ l ∷ m ∷ n ∷ o ∷ p ∷ []) long = refl
shuffled _ long = absurd (omega arith)

-- one more sample
pub words_more : (bytes : List ℕ) (i : ℕ) → 2 * i + 1 < length bytes → words_of (take (2 * (i + 1)) bytes)
    ≡ words_of (take (2 * i) bytes) ++ (256 * get_or bytes (2 * i) 0 + get_or bytes (2 * i + 1) 0) ∷ []
words_more bytes i below =
    let double : 2 * (i + 1) ≡ 2 * i + 1 + 1 = omega arith in
    let even : length (take (2 * i) bytes) ≡ 2 * i = length-take-le (2 * i) bytes (omega arith) in
    let cut : take (2 * (i + 1)) bytes ≡ (take (2 * i) bytes ++ get_or bytes (2 * i) 0 ∷ [])
    ++ get_or bytes (2 * i + 1) 0 ∷ [] =
    ap (λ (n : ℕ). take n bytes) double ∙ take_more bytes (2 * i + 1) 0 (omega arith)
    ∙ ap (λ (xs : List ℕ). xs ++ get_or bytes (2 * i + 1) 0 ∷ []) (take_more bytes (2 * i) 0 (omega arith)) in
    ap words_of (cut ∙ simp append_assoc)
    ∙ words-append (take (2 * i) bytes) (get_or bytes (2 * i) 0 ∷ get_or bytes (2 * i + 1) 0 ∷ []) i even

-- a block of samples is written
pub words_block : (bytes out block : List ℕ) (k : ℕ) → 8 * k + 8 ≤ length out → length bytes ≡ 2 * length out →
    take (8 * k) out ≡ words_of (take (16 * k) bytes) →
    length block ≡ 8 → block ≡ words_of (take (16 * k + 16 - 16 * k) (drop (16 * k) bytes)) →
    take (8 * (k + 1)) (put_mid (8 * k) (8 * k + 8 - 8 * k) out block) ≡ words_of (take (16 * (k + 1)) bytes)
words_block bytes out block k room twice before long written =
    let even : length (take (16 * k) bytes) ≡ 2 * (8 * k) = length-take-le (16 * k) bytes (omega arith) ∙ omega arith in
    let sixteen : 16 * k + 16 - 16 * k ≡ 16 = omega arith in
    let next : 16 * (k + 1) ≡ 16 * k + 16 = omega arith in
    let block_is : block ≡ words_of (take 16 (drop (16 * k) bytes)) =
    written ∙ ap (λ (n : ℕ). words_of (take n (drop (16 * k) bytes))) sixteen in
    take-put_mid (8 * k) (8 * k + 8 - 8 * k) out block (8 * (k + 1)) (omega arith) (omega arith)
    ∙ ap₂ (λ (xs : List ℕ) (ys : List ℕ). xs ++ ys) before block_is
    ∙ sym (ap (λ (n : ℕ). words_of (take n bytes)) next ∙ ap words_of (take-add (16 * k) 16 bytes)
    ∙ words-append (take (16 * k) bytes) (take 16 (drop (16 * k) bytes)) (8 * k) even)

-- the rest after the blocks is written
pub words_rest : (bytes out rest : List ℕ) (k m : ℕ) → 8 * k ≤ length out → length bytes ≡ 2 * length out →
    take (8 * k) out ≡ words_of (take (16 * k) bytes) →
    rest ≡ words_of (drop (16 * k) bytes) → m ≡ length out - 8 * k → put_mid (8 * k) m out rest ≡ words_of bytes
words_rest bytes out rest k m room twice before written all =
    let even : length (take (16 * k) bytes) ≡ 2 * (8 * k) = length-take-le (16 * k) bytes (omega arith) ∙ omega arith in
    let past : drop m (drop (8 * k) out) ≡ [] =
    drop_all m (drop (8 * k) out) (omega (arith, length-drop (8 * k) out)) in
    ap₂ (λ (xs : List ℕ) (ys : List ℕ). xs ++ ys) before
    (ap₂ (λ (xs : List ℕ) (ys : List ℕ). xs ++ ys) written past ∙ append-nil (words_of (drop (16 * k) bytes)))
    ∙ sym (words-append (take (16 * k) bytes) (drop (16 * k) bytes) (8 * k) even)
    ∙ ap words_of (take-append-drop (16 * k) bytes)

-- the lanes of a block of bytes are its samples
pub block_words : (bytes out : List ℕ) → length bytes ≡ 16 → length out ≡ 8 → All (λ b. b < 256) bytes →
    put_chunk 0 out (digits_l 65536 8 (number_l 256 (pick_l 0 (take 16 bytes ++ take 16 bytes)
    (1 ∷ 0 ∷ 3 ∷ 2 ∷ 5 ∷ 4 ∷ 7 ∷ 6 ∷ 9 ∷ 8 ∷ 11 ∷ 10 ∷ 13 ∷ 12 ∷ 15 ∷ 14 ∷ [])))) ≡ words_of bytes
block_words bytes out sixteen eight bound =
    let whole : take 16 bytes ≡ bytes = take_all 16 bytes (omega arith) in
    let lanes : digits_l 65536 8 (number_l 256 (pick_l 0 (take 16 bytes ++ take 16 bytes)
    (1 ∷ 0 ∷ 3 ∷ 2 ∷ 5 ∷ 4 ∷ 7 ∷ 6 ∷ 9 ∷ 8 ∷ 11 ∷ 10 ∷ 13 ∷ 12 ∷ 15 ∷ 14 ∷ []))) ≡ words_of bytes =
    ap (λ (bs : List ℕ). digits_l 65536 8 (number_l 256
    (pick_l 0 (bs ++ bs) (1 ∷ 0 ∷ 3 ∷ 2 ∷ 5 ∷ 4 ∷ 7 ∷ 6 ∷ 9 ∷ 8 ∷ 11 ∷ 10 ∷ 13 ∷ 12 ∷ 15 ∷ 14 ∷ [])))) whole
    ∙ ap (λ (bs : List ℕ). digits_l 65536 8 (number_l 256 bs)) (shuffled bytes sixteen)
    ∙ words-exchanged bytes 8 sixteen bound in
    ap (λ (ws : List ℕ). put_chunk 0 out ws) lanes
    ∙ put_chunk_whole out (words_of bytes) (eight ∙ sym (length-words bytes 8 sixteen))

-- ---- none above

-- where the mask of the lanes above is empty, no sample of the block is above
pub none_above : (max : ℕ) (block : List ℕ) → length block ≡ 16 →
    not (nat_eq (mask_l (map (top 15) (zip2 (λ a b. cond (ltb a b) 65535 0) (replicate 16 max) (chunk 0 16 block)))
    % 2 ^ 64) 0) ≡ false → All (λ h. h ≤ max) block
none_above max block long empty k d below =
    let lanes : List ℕ = chunk 0 16 block in
    let passed : List Bool = map (λ x. ltb max x) lanes in
    let tested : map (top 15) (zip2 (λ a b. cond (ltb a b) 65535 0) (replicate 16 max) lanes) ≡ passed =
    tops_compared w16 ltb (replicate 16 max) lanes
    ∙ zip2_splat_left ltb max 16 lanes (length-chunk 0 16 block (omega arith)) in
    let masked : mask_l passed % 2 ^ 64 ≡ 0 =
    ap (λ (ms : List Bool). mask_l ms % 2 ^ 64) (sym tested) ∙ eqb-true _ _ (not-false _ empty) in
    let short : length passed ≤ 64 =
    omega (arith, length-map lanes (λ x. ltb max x), length-chunk 0 16 block (omega arith)) in
    let none : mask_l passed ≡ 0 = sym (mask_l-mod passed 64 short) ∙ masked in
    ltb-false max (get_or block k d)
    (none_from_empty_mask (λ x. ltb max x) block 0 16 d (omega arith) none k (omega arith) (omega arith))

-- no sample of one more block is above
pub within_block : (max : ℕ) (samples : List ℕ) (k : ℕ) → All (λ h. h ≤ max) (take (16 * k) samples) →
    All (λ h. h ≤ max) (take (16 * k + 16 - 16 * k) (drop (16 * k) samples)) →
    All (λ h. h ≤ max) (take (16 * (k + 1)) samples)
within_block max samples k before here =
    let P : ℕ → Type 0 = λ h. h ≤ max in
    let sixteen : 16 * k + 16 - 16 * k ≡ 16 = omega arith in
    let next : 16 * (k + 1) ≡ 16 * k + 16 = omega arith in
    All-same P _ _ (ap (λ (n : ℕ). take n samples) next ∙ take-add (16 * k) 16 samples)
    (All-append P _ _ before (subst (λ (n : ℕ). All P (take n (drop (16 * k) samples))) sixteen here))

-- what none of the first samples is above, and none of the others
pub within_all : (max : ℕ) (samples : List ℕ) (n : ℕ) → All (λ h. h ≤ max) (take n samples) →
    All (λ h. h ≤ max) (take (length samples - n) (drop n samples)) → All (λ h. h ≤ max) samples
within_all max samples n before after =
    let P : ℕ → Type 0 = λ h. h ≤ max in
    All-same P _ _ (sym (take-append-drop n samples))
    (All-append P _ _ before (All-same P _ _ (sym (take_rest samples n)) after))

-- and none of the first i of the others
pub within_more : (max : ℕ) (samples : List ℕ) (n i : ℕ) → All (λ h. h ≤ max) (take n samples) →
    All (λ h. h ≤ max) (take i (take (length samples - n) (drop n samples))) → All (λ h. h ≤ max) (take (n + i) samples)
within_more max samples n i before after =
    let P : ℕ → Type 0 = λ h. h ≤ max in
    All-same P _ _ (take-add n i samples)
    (All-append P _ _ before (subst (λ (xs : List ℕ). All P (take i xs)) (take_rest samples n) after))

-- an element behind the first n
slice_get-drop : (n i : ℕ) (samples : List ℕ) → slice_get (drop n samples) i ≡ slice_get samples (n + i)
slice_get-drop zero i samples = let e : i ≡ 0 + i = omega arith in ap (λ (k : ℕ). slice_get samples k) e
slice_get-drop (suc n) i [] = refl
slice_get-drop (suc n) i (x ∷ samples) =
    let e : suc n + i ≡ suc (n + i) = omega arith in
    slice_get-drop n i samples ∙ sym (ap (λ (k : ℕ). slice_get (x ∷ samples) k) e)

-- a sample above max, at place i behind the first n, is one at place n + i of all samples
pub above_behind : (max : ℕ) (samples : List ℕ) (n i : ℕ) →
    IsSomeAnd (slice_get (take (length samples - n) (drop n samples)) i) (λ h. max < h) →
    IsSomeAnd (slice_get samples (n + i)) (λ h. max < h)
above_behind max samples n i above =
    subst (λ (h : Option ℕ). IsSomeAnd h (λ h. max < h))
    (ap (λ (xs : List ℕ). slice_get xs i) (take_rest samples n) ∙ slice_get-drop n i samples) above

-- ---- least and greatest

-- the one element of a list
only : (x y : ℕ) → Contains (x ∷ []) y → x ≡ y
only x y h =
    All-contains (λ (k : ℕ). x ≡ k) (x ∷ []) y (All-cons (λ (k : ℕ). x ≡ k) x [] refl (All-nil (λ (k : ℕ). x ≡ k))) h

-- a test that chooses the lesser, and the greater
pub sel-lesser : (xs ys : List ℕ) → sel_l (zip2 ltb xs ys) xs ys ≡ zip2 min xs ys
sel-lesser [] ys = refl
sel-lesser (x ∷ xs) [] = refl
sel-lesser (x ∷ xs) (y ∷ ys) = ap₂ (λ (a : ℕ) (rest : List ℕ). a ∷ rest) (grind (arith, nat_tests)) (sel-lesser xs ys)

-- the same test, with its choices exchanged, chooses the greater
pub sel-greater : (xs ys : List ℕ) → sel_l (zip2 ltb xs ys) ys xs ≡ zip2 max xs ys
sel-greater [] ys = refl
sel-greater (x ∷ xs) [] = refl
sel-greater (x ∷ xs) (y ∷ ys) = ap₂ (λ (a : ℕ) (rest : List ℕ). a ∷ rest) (grind (arith, nat_tests)) (sel-greater xs ys)

-- one more sample
pub least_more : (xs : List ℕ) (y m n : ℕ) → IsLeast xs m → n ≡ min m y → IsLeast (xs ++ y ∷ []) n
least_more xs y m n h e = record {
  bound = All-append (λ x. n ≤ x) xs (y ∷ []) (All-weaker (λ x. m ≤ x) (λ x. n ≤ x) (λ x l. omega arith) xs h.bound)
      (All-cons (λ x. n ≤ x) y [] (omega arith) (All-nil (λ x. n ≤ x)));
  held = ⊎_elim (λ l. subst (λ (k : ℕ). Contains (xs ++ y ∷ []) k) (let s : m ≡ n = omega arith in
      s) (Contains-append_left xs (y ∷ []) m h.held))
      (λ l. subst (λ (k : ℕ). Contains (xs ++ y ∷ []) k) (let s : y ≡ n = omega arith in s) (Contains-push xs y))
      (cases_lt m y);
}

-- the same of the greatest
pub greatest_more : (xs : List ℕ) (y m n : ℕ) → IsGreatest xs m → n ≡ max m y → IsGreatest (xs ++ y ∷ []) n
greatest_more xs y m n h e = record {
  bound = All-append (λ x. x ≤ n) xs (y ∷ []) (All-weaker (λ x. x ≤ m) (λ x. x ≤ n) (λ x l. omega arith) xs h.bound)
      (All-cons (λ x. x ≤ n) y [] (omega arith) (All-nil (λ x. x ≤ n)));
  held =
      ⊎_elim (λ l. subst (λ (k : ℕ). Contains (xs ++ y ∷ []) k) (let s : y ≡ n = omega arith in s) (Contains-push xs y))
      (λ l. subst (λ (k : ℕ). Contains (xs ++ y ∷ []) k) (let s : m ≡ n = omega arith in
      s) (Contains-append_left xs (y ∷ []) m h.held)) (cases_lt m y);
}

-- further samples after the least of the first ones
pub least_joined : (xs ys : List ℕ) (m n : ℕ) → IsLeast xs m → IsLeast (m ∷ ys) n → IsLeast (xs ++ ys) n
least_joined xs ys m n first then =
    let low : n ≤ m = All-head (λ x. n ≤ x) m ys then.bound in
    record {
      bound = All-append (λ x. n ≤ x) xs ys (All-weaker (λ x. m ≤ x) (λ x. n ≤ x) (λ x l. omega arith) xs first.bound)
          (All-tail (λ x. n ≤ x) m ys then.bound);
      held = ⊎_elim (λ l. Contains-append_left xs ys n (subst (λ (k : ℕ). Contains xs k) (only m n l) first.held))
          (λ l. Contains-append_right xs ys n l) (Contains-append_cases (m ∷ []) ys n then.held);
    }

-- the same of the greatest
pub greatest_joined : (xs ys : List ℕ) (m n : ℕ) → IsGreatest xs m → IsGreatest (m ∷ ys) n → IsGreatest (xs ++ ys) n
greatest_joined xs ys m n first then =
    let high : m ≤ n = All-head (λ x. x ≤ n) m ys then.bound in
    record {
      bound = All-append (λ x. x ≤ n) xs ys (All-weaker (λ x. x ≤ m) (λ x. x ≤ n) (λ x l. omega arith) xs first.bound)
          (All-tail (λ x. x ≤ n) m ys then.bound);
      held = ⊎_elim (λ l. Contains-append_left xs ys n (subst (λ (k : ℕ). Contains xs k) (only m n l) first.held))
          (λ l. Contains-append_right xs ys n l) (Contains-append_cases (m ∷ []) ys n then.held);
    }

-- a list that is begun with its first element
pub least_twice : (xs : List ℕ) (n : ℕ) → 0 < length xs → IsLeast (get_or xs 0 0 ∷ xs) n → IsLeast xs n
least_twice xs n some h = record {
  bound = All-tail (λ x. n ≤ x) (get_or xs 0 0) xs h.bound;
  held = ⊎_elim (λ l. subst (λ (k : ℕ). Contains xs k) (only (get_or xs 0 0) n l) (Contains-get_or xs 0 0 some))
      (λ l. l) (Contains-append_cases (get_or xs 0 0 ∷ []) xs n h.held);
}

-- the same of the greatest
pub greatest_twice : (xs : List ℕ) (n : ℕ) → 0 < length xs → IsGreatest (get_or xs 0 0 ∷ xs) n → IsGreatest xs n
greatest_twice xs n some h = record {
  bound = All-tail (λ x. x ≤ n) (get_or xs 0 0) xs h.bound;
  held = ⊎_elim (λ l. subst (λ (k : ℕ). Contains xs k) (only (get_or xs 0 0) n l) (Contains-get_or xs 0 0 some))
      (λ l. l) (Contains-append_cases (get_or xs 0 0 ∷ []) xs n h.held);
}

-- each bound of the lanes is one of the samples, and each lane is one of them
pub record HaveLeast (samples lanes : List ℕ) : Type 0 where
  pub bound : (m : ℕ) → All (λ h. m ≤ h) lanes → All (λ h. m ≤ h) samples
  pub held : All (λ h. Contains samples h) lanes

-- the same of bounds from above
pub record HaveGreatest (samples lanes : List ℕ) : Type 0 where
  pub bound : (m : ℕ) → All (λ h. h ≤ m) lanes → All (λ h. h ≤ m) samples
  pub held : All (λ h. Contains samples h) lanes

-- so the least of the lanes is that of the samples
pub least_of_lanes : (samples lanes : List ℕ) (m : ℕ) → HaveLeast samples lanes → IsLeast lanes m → IsLeast samples m
least_of_lanes samples lanes m have least = record {
  bound = have.bound m least.bound;
  held = All-contains (λ h. Contains samples h) lanes m have.held least.held;
}

-- and the greatest of the lanes is that of the samples
pub greatest_of_lanes : (samples lanes : List ℕ) (m : ℕ) → HaveGreatest samples lanes →
    IsGreatest lanes m → IsGreatest samples m
greatest_of_lanes samples lanes m have greatest = record {
  bound = have.bound m greatest.bound;
  held = All-contains (λ h. Contains samples h) lanes m have.held greatest.held;
}

-- the samples themselves
pub have_least_first : (samples : List ℕ) → HaveLeast samples samples
have_least_first samples = record { bound = λ m b. b; held = All-contains_itself samples }

-- the same of the greatest
pub have_greatest_first : (samples : List ℕ) → HaveGreatest samples samples
have_greatest_first samples = record { bound = λ m b. b; held = All-contains_itself samples }

-- what holds of each lane of the lesser
all-lesser : (P : ℕ → Type 0) (xs ys : List ℕ) → All P xs → All P ys → All P (zip2 min xs ys)
all-lesser P [] ys a b = All-nil P
all-lesser P (x ∷ xs) [] a b = All-nil P
all-lesser P (x ∷ xs) (y ∷ ys) a b =
    All-cons P (min x y) (zip2 min xs ys)
    (⊎_elim (λ l. subst P (let s : x ≡ min x y = omega arith in s) (All-head P x xs a))
    (λ l. subst P (let s : y ≡ min x y = omega arith in s) (All-head P y ys b)) (cases_lt x y))
    (all-lesser P xs ys (All-tail P x xs a) (All-tail P y ys b))

all-greater : (P : ℕ → Type 0) (xs ys : List ℕ) → All P xs → All P ys → All P (zip2 max xs ys)
all-greater P [] ys a b = All-nil P
all-greater P (x ∷ xs) [] a b = All-nil P
all-greater P (x ∷ xs) (y ∷ ys) a b =
    All-cons P (max x y) (zip2 max xs ys)
    (⊎_elim (λ l. subst P (let s : y ≡ max x y = omega arith in s) (All-head P y ys b))
    (λ l. subst P (let s : x ≡ max x y = omega arith in s) (All-head P x xs a)) (cases_lt x y))
    (all-greater P xs ys (All-tail P x xs a) (All-tail P y ys b))

-- a bound of the lesser is one of both
bound-lesser : (m : ℕ) (xs ys : List ℕ) → length xs ≡ length ys → All (λ h. m ≤ h) (zip2 min xs ys) →
    All (λ h. m ≤ h) xs × All (λ h. m ≤ h) ys
bound-lesser m [] [] e b = (All-nil (λ h. m ≤ h), All-nil (λ h. m ≤ h))
bound-lesser m [] (y ∷ ys) e b = absurd (omega arith)
bound-lesser m (x ∷ xs) [] e b = absurd (omega arith)
bound-lesser m (x ∷ xs) (y ∷ ys) e b =
    let here : m ≤ min x y = All-head (λ h. m ≤ h) (min x y) (zip2 min xs ys) b in
    let rest = bound-lesser m xs ys (omega arith) (All-tail (λ h. m ≤ h) (min x y) (zip2 min xs ys) b) in
    (All-cons (λ h. m ≤ h) x xs (omega arith) rest.0, All-cons (λ h. m ≤ h) y ys (omega arith) rest.1)

bound-greater : (m : ℕ) (xs ys : List ℕ) → length xs ≡ length ys → All (λ h. h ≤ m) (zip2 max xs ys) →
    All (λ h. h ≤ m) xs × All (λ h. h ≤ m) ys
bound-greater m [] [] e b = (All-nil (λ h. h ≤ m), All-nil (λ h. h ≤ m))
bound-greater m [] (y ∷ ys) e b = absurd (omega arith)
bound-greater m (x ∷ xs) [] e b = absurd (omega arith)
bound-greater m (x ∷ xs) (y ∷ ys) e b =
    let here : max x y ≤ m = All-head (λ h. h ≤ m) (max x y) (zip2 max xs ys) b in
    let rest = bound-greater m xs ys (omega arith) (All-tail (λ h. h ≤ m) (max x y) (zip2 max xs ys) b) in
    (All-cons (λ h. h ≤ m) x xs (omega arith) rest.0, All-cons (λ h. h ≤ m) y ys (omega arith) rest.1)

-- the samples of one more block
cut_block : (samples : List ℕ) (k : ℕ) → take (8 * (k + 1)) samples ≡ take (8 * k) samples ++ chunk (8 * k) 8 samples
cut_block samples k =
    let next : 8 * (k + 1) ≡ 8 * k + 8 = omega arith in
    ap (λ (n : ℕ). take n samples) next ∙ take-add (8 * k) 8 samples

-- the lesser of each lane and its sample in one more block have the least of the samples with this block
pub have_least_more : (samples lows : List ℕ) (k : ℕ) → 8 * k + 8 ≤ length samples → length lows ≡ 8 →
    HaveLeast (take (8 * k) samples) lows →
    HaveLeast (take (8 * (k + 1)) samples) (zip2 min lows (chunk (8 * k) 8 samples))
have_least_more samples lows k room eight have =
    let front : List ℕ = take (8 * k) samples in
    let block : List ℕ = chunk (8 * k) 8 samples in
    let same : length lows ≡ length block = eight ∙ sym (length-chunk (8 * k) 8 samples room) in
    let joined : HaveLeast (front ++ block) (zip2 min lows block) = record {
      bound = λ m b.
          let both = bound-lesser m lows block same b in
          All-append (λ h. m ≤ h) front block (have.bound m both.0) both.1;
      held = all-lesser (λ h. Contains (front ++ block) h) lows block
          (All-weaker (λ h. Contains front h) (λ h. Contains (front ++ block) h)
          (λ h. Contains-append_left front block h) lows have.held)
          (All-weaker (λ h. Contains block h) (λ h. Contains (front ++ block) h)
          (λ h. Contains-append_right front block h) block (All-contains_itself block));
    } in
    subst (λ (xs : List ℕ). HaveLeast xs (zip2 min lows block)) (sym (cut_block samples k)) joined

-- the same of the greater
pub have_greatest_more : (samples highs : List ℕ) (k : ℕ) → 8 * k + 8 ≤ length samples → length highs ≡ 8 →
    HaveGreatest (take (8 * k) samples) highs →
    HaveGreatest (take (8 * (k + 1)) samples) (zip2 max highs (chunk (8 * k) 8 samples))
have_greatest_more samples highs k room eight have =
    let front : List ℕ = take (8 * k) samples in
    let block : List ℕ = chunk (8 * k) 8 samples in
    let same : length highs ≡ length block = eight ∙ sym (length-chunk (8 * k) 8 samples room) in
    let joined : HaveGreatest (front ++ block) (zip2 max highs block) = record {
      bound = λ m b.
          let both = bound-greater m highs block same b in
          All-append (λ h. h ≤ m) front block (have.bound m both.0) both.1;
      held = all-greater (λ h. Contains (front ++ block) h) highs block
          (All-weaker (λ h. Contains front h) (λ h. Contains (front ++ block) h)
          (λ h. Contains-append_left front block h) highs have.held)
          (All-weaker (λ h. Contains block h) (λ h. Contains (front ++ block) h)
          (λ h. Contains-append_right front block h) block (All-contains_itself block));
    } in
    subst (λ (xs : List ℕ). HaveGreatest xs (zip2 max highs block)) (sym (cut_block samples k)) joined

-- ---- a row that is changed sample by sample

-- a place that is not yet changed
same_place : (now start : List ℕ) (i : ℕ) → drop i now ≡ drop i start → get_or now i 0 ≡ get_or start i 0
same_place now start i e =
    let here : i + 0 ≡ i = omega arith in
    ap (λ (k : ℕ). get_or now k 0) (sym here) ∙ sym (get_or-drop i now 0 0) ∙ ap (λ (xs : List ℕ). get_or xs 0 0) e
    ∙ get_or-drop i start 0 0 ∙ ap (λ (k : ℕ). get_or start k 0) here

-- one more sample is changed
pub map_sample : (f : ℕ → ℕ) (row start : List ℕ) (i v : ℕ) → i < length row → length row ≡ length start →
    take i row ≡ map f (take i start) → drop i row ≡ drop i start → v ≡ f (get_or row i 0) →
    (take (i + 1) (set row i v) ≡ map f (take (i + 1) start)) × (drop (i + 1) (set row i v) ≡ drop (i + 1) start)
map_sample f row start i v below long before after value =
    let changed : v ≡ f (get_or start i 0) = value ∙ ap f (same_place row start i after) in (
      take_more_set row i v below ∙ ap₂ (λ (xs : List ℕ) (y : ℕ). xs ++ y ∷ []) before changed
          ∙ sym (ap (λ (xs : List ℕ). map f xs) (take_more start i 0 (omega arith))
          ∙ map-append f (take i start) (get_or start i 0 ∷ [])),
      drop-set-lt (i + 1) row i v (omega arith) ∙ sym (drop-drop 1 i row)
          ∙ ap (λ (xs : List ℕ). drop 1 xs) after ∙ drop-drop 1 i start,
    )

-- one more block is changed
pub map_block : (f : ℕ → ℕ) (row start block : List ℕ) (k : ℕ) → 8 * k + 8 ≤ length row → length block ≡ 8 →
    take (8 * k) row ≡ map f (take (8 * k) start) → drop (8 * k) row ≡ drop (8 * k) start →
    block ≡ map f (take (8 * k + 8 - 8 * k) (drop (8 * k) row)) →
    (take (8 * (k + 1)) (put_mid (8 * k) (8 * k + 8 - 8 * k) row block) ≡ map f (take (8 * (k + 1)) start))
    × (drop (8 * (k + 1)) (put_mid (8 * k) (8 * k + 8 - 8 * k) row block) ≡ drop (8 * (k + 1)) start)
map_block f row start block k room eight before after changed =
    let size : 8 * k + 8 - 8 * k ≡ 8 = omega arith in
    let next : 8 * (k + 1) ≡ 8 * k + 8 = omega arith in
    let block_is : block ≡ map f (take 8 (drop (8 * k) start)) =
    changed ∙ ap₂ (λ (n : ℕ) (xs : List ℕ). map f (take n xs)) size after in (
      take-put_mid (8 * k) (8 * k + 8 - 8 * k) row block (8 * (k + 1)) (omega arith) (omega arith)
          ∙ ap₂ (λ (xs : List ℕ) (ys : List ℕ). xs ++ ys) before block_is
          ∙ sym (ap (λ (n : ℕ). map f (take n start)) next ∙ ap (λ (xs : List ℕ). map f xs) (take-add (8 * k) 8 start)
          ∙ map-append f (take (8 * k) start) (take 8 (drop (8 * k) start))),
      drop-put_mid (8 * k) (8 * k + 8 - 8 * k) row block (8 * (k + 1)) (omega arith) (omega arith) (omega arith)
          ∙ ap (λ (n : ℕ). drop n row) next ∙ sym (drop-drop 8 (8 * k) row) ∙ ap (λ (xs : List ℕ). drop 8 xs) after
          ∙ drop-drop 8 (8 * k) start ∙ ap (λ (n : ℕ). drop n start) (sym next),
    )

-- the rest after the blocks is changed
pub map_rest : (f : ℕ → ℕ) (row start rest : List ℕ) (k m : ℕ) → k ≤ length row → m ≡ length row - k →
    take k row ≡ map f (take k start) → drop k row ≡ drop k start →
    rest ≡ map f (take m (drop k row)) → put_mid k m row rest ≡ map f start
map_rest f row start rest k m room all before after changed =
    let past : drop m (drop k row) ≡ [] = drop_all m (drop k row) (omega (arith, length-drop k row)) in
    let whole : take m (drop k row) ≡ drop k row = take_all m (drop k row) (omega (arith, length-drop k row)) in
    ap₂ (λ (xs : List ℕ) (ys : List ℕ). xs ++ ys) before (ap₂ (λ (xs : List ℕ) (ys : List ℕ). xs ++ ys) (changed
    ∙ ap (λ (xs : List ℕ). map f xs) (whole ∙ after)) past ∙ append-nil (map f (drop k start)))
    ∙ sym (map-append f (take k start) (drop k start)) ∙ ap (λ (xs : List ℕ). map f xs) (take-append-drop k start)

-- two functions that agree at each sample
pub map_same : (f g : ℕ → ℕ) (xs : List ℕ) → All (λ x. f x ≡ g x) xs → map f xs ≡ map g xs
map_same f g [] e = refl
map_same f g (x ∷ xs) e =
    ap₂ (λ (y : ℕ) (ys : List ℕ). y ∷ ys) (All-head (λ x. f x ≡ g x) x xs e)
    (map_same f g xs (All-tail (λ x. f x ≡ g x) x xs e))

-- ---- lanes that are raised or lowered

-- what is below by is filled up, and by is taken away
pub lowered_lanes : (n by : ℕ) (block : List ℕ) → length block ≡ n → by < 65536 → Each1 (Fits w16) block →
    zip2 (λ a b. (a + (65536 - b)) % 65536) (zip2 max block (replicate n by)) (replicate n by) ≡ map (λ h. h - by) block
lowered_lanes n by [] e small fits = refl
lowered_lanes zero by (h ∷ block) e small fits = absurd (omega arith)
lowered_lanes (suc n) by (h ∷ block) e small fits =
    let bound : h < 65536 = fits.0.fits in
    let here : (max h by + (65536 - by)) % 65536 ≡ h - by = omega arith in
    ap₂ (λ (y : ℕ) (ys : List ℕ). y ∷ ys) here (lowered_lanes n by block (omega arith) small fits.1)

-- what is above the room for the sum is cut off, and the sum is made
pub raised_lanes : (n by step bound maxval : ℕ) (block : List ℕ) → length block ≡ n → maxval < 65536 →
    step ≡ min by maxval → bound ≡ maxval - step →
    zip2 (λ a b. (a + b) % 65536) (zip2 min block (replicate n bound)) (replicate n step)
    ≡ map (λ h. min (h + by) maxval) block
raised_lanes n by step bound maxval [] e fits s b = refl
raised_lanes zero by step bound maxval (h ∷ block) e fits s b = absurd (omega arith)
raised_lanes (suc n) by step bound maxval (h ∷ block) e fits s b =
    let sum : min h bound + step ≡ min (h + by) maxval = omega arith in
    let here : (min h bound + step) % 65536 ≡ min (h + by) maxval = omega arith in
    ap₂ (λ (y : ℕ) (ys : List ℕ). y ∷ ys) here (raised_lanes n by step bound maxval block (omega arith) fits s b)

-- a store of the lanes of the whole block
pub stored : (block lanes : List ℕ) → length block ≡ 8 → length lanes ≡ 8 → put_chunk 0 block lanes ≡ lanes
stored block lanes eight same = put_chunk_whole block lanes (eight ∙ sym same)

-- ---- a step up or down

-- a step down never goes above the greatest sample
pub raised-down : (maxval h : ℕ) (delta : ℤ) → h ≤ maxval → delta <ℤ pos 0 →
    h - unsigned_abs delta ≡ raised maxval delta h
raised-down maxval h (pos k) bound down = absurd (omega (arith, ints))
raised-down maxval h (negsuc k) bound down =
    let at : Bool → ℕ = λ b. brought_into maxval (cond b (negsuc (suc k - suc h)) (pos (h - suc k))) in
    ⊎_elim (λ l. let none : h - suc k ≡ 0 = omega arith in none ∙ sym (ap at (lt-ltb h (suc k) l)))
    (λ l. let some : h - suc k ≡ min (h - suc k) maxval = omega arith in some ∙ sym (ap at (le-ltb h (suc k) l)))
    (cases_lt h (suc k))
