-- Places without a number are counted at once.
use Rattle.std.proofs.Common.{◌≡◌, ◌≢◌, ℕ, zero, suc, ◌+◌, ◌/◌, ◌-◌, ◌<◌, ◌≤◌, Bool, true, false, List, [], ◌∷◌, ◌++◌}
use Rattle.std.proofs.Common.{length, take, drop, get_or, sym, ◌∙◌, ap, subst, arith, append_assoc}
use Rattle.std.proofs.lemmas.Bool.{false≢true}
use Rattle.std.proofs.lemmas.List.{take_more, drop_more}
use Rattle.obj_write.specs.VertexMarks.{numbered, marked}
use Rattle.obj_write.specs.Table.{AreFlagged, IsCounted, block_end}

-- one place more, at which no mark stands
counted-next : (marks xs : List ℕ) (count at : ℕ) → at < length xs → get_or xs at 0 ≡ 0 →
    IsCounted marks xs count at → IsCounted marks xs count (at + 1)
counted-next marks xs count at below none so =
    let few = so.few in
    let rest : drop at xs ≡ 0 ∷ drop (at + 1) xs = drop_more xs at 0 below ∙ ap (λ x. x ∷ drop (at + 1) xs) none in
    let first : take (at + 1) xs ≡ take at xs ++ 0 ∷ [] =
    take_more xs at 0 below ∙ ap (λ x. take at xs ++ x ∷ []) none in
    let behind : List ℕ = numbered count (drop (at + 1) xs) in
    record {
      few = omega arith;
      within = omega arith;
      so_far =
          so.so_far ∙ ap (λ r. take at xs ++ numbered count r) rest ∙ sym (append_assoc (take at xs) (0 ∷ []) behind)
          ∙ ap (λ t. t ++ behind) (sym first);
      total = so.total ∙ ap (λ r. count + marked r) rest;
    }

-- so many places more, at which no mark stands
counted-on : (marks xs : List ℕ) (count at m : ℕ) → at + m ≤ length xs →
    ((k : ℕ) → at ≤ k → k < at + m → get_or xs k 0 ≡ 0) → IsCounted marks xs count at →
    IsCounted marks xs count (at + m)
counted-on marks xs count at zero fits none so =
    let same : at ≡ at + 0 = omega arith in
    subst (IsCounted marks xs count) same so
counted-on marks xs count at (suc m) fits none so =
    let before = counted-on marks xs count at m (omega arith) (λ k low high. none k low (omega arith)) so in
    let next : at + m + 1 ≡ at + suc m = omega arith in
    subst (IsCounted marks xs count) next
    (counted-next marks xs count (at + m) (omega arith) (none (at + m) (omega arith) (omega arith)) before)

-- a block whose flag is not set
pub counted-block : (marks xs : List ℕ) (used : List Bool) (count block : ℕ) → AreFlagged xs used →
    get_or used block false ≡ false →
    IsCounted marks xs count (block_end xs block) → IsCounted marks xs count (block_end xs (block + 1))
counted-block marks xs used count block flagged unused so =
    let from = block_end xs block in
    let to = block_end xs (block + 1) in
    let m = to - from in
    let ends : from + m ≡ to = omega arith in
    let fits : from + m ≤ length xs = omega arith in
    subst (IsCounted marks xs count) ends
    (counted-on marks xs count from m fits
    (λ k low high.
    let here : k / 64 ≡ block = omega arith in
    flagged.clear k (ap (λ b. get_or used b false) here ∙ unused))
    so)

-- numbers that were changed in a block whose flag is set
pub flagged-other : (xs ys : List ℕ) (used : List Bool) (block : ℕ) → AreFlagged xs used → length ys ≡ length xs →
    get_or used block false ≡ true → ((k : ℕ) → k / 64 ≢ block → get_or ys k 0 ≡ get_or xs k 0) → AreFlagged ys used
flagged-other xs ys used block flagged long set others =
    let room = flagged.room in
    let close = flagged.close in
    record {
      room = omega arith;
      close = omega arith;
      clear = λ k unused. others k (λ here. false≢true (sym unused ∙ ap (λ b. get_or used b false) here ∙ set))
          ∙ flagged.clear k unused;
    }
