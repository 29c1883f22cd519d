-- The pages that meet an area, joined from the finest up.
use Rattle.std.proofs.Common.{◌≡◌, ℕ, ◌+◌, ◌-◌, ◌<◌, ◌≤◌, sym, subst, arith, ⊎_elim, Some}
use Rattle.std.proofs.lemmas.Bool.{cases_lt}
use Rattle.mesh_defs.specs.declared.point.Point.{Point}
use Rattle.mesh_defs.specs.State.{Area}
use Rattle.bintree_laws.proofs.LatticeLemmas.{same_point}
use Rattle.page_wedges.specs.Page.{Page}
use Rattle.page_store.specs.Store.{Store, top_of, cuts_of, page_at, AreJoined}
use Rattle.page_store.specs.Change.{IsPageJoined}
use Rattle.page_store.specs.Edit.{span_from, span_end, IsNear, AreJoinedBut}
use Rattle.page_store.proofs.TableLemmas.{page_at-some}
use Rattle.page_store.proofs.JoinLemmas.{AreFinerJoined}
use Rattle.page_store.proofs.AboveLemmas.{join-step}
use Rattle.page_store.proofs.EditLemmas.{near-same}

-- where more are due
pub but-more : (s : Store) (due other : ℕ → Point → Type 0) → AreJoinedBut s due →
    ((q : ℕ) (t : Point) → due q t → other q t) → AreJoinedBut s other
but-more s due other joined more q t page not at = joined q t page (λ is. not (more q t is)) at

-- what is due within a row
abbrev pub IsDueFrom : Store → Area → ℕ → ℕ → ℕ → ℕ → Point → Type 0
IsDueFrom s area q y x r t =
    (q ≤ r) × IsNear s area r t × (r ≡ q → y ≤ t.y) × (r ≡ q → t.y ≡ y → x ≤ t.x)

pub join-square : (s s' : Store) (area : Area) (q y x : ℕ) → IsPageJoined s s' q (record { x = x; y = y }) →
    AreJoinedBut s (IsDueFrom s area q y x) → AreJoinedBut s' (IsDueFrom s' area q y (x + 1))
join-square s s' area q y x j joined = join-step (IsDueFrom s area q y x)
    (IsDueFrom s' area q y (x + 1)) j joined (λ r u not d.
    let near = near-same s' s area r u (sym j.large) (sym j.n) d.1 in
    ⊎_elim
    (λ (more : q < r).
    absurd (not (d.0, near, (λ e. absurd (omega (arith, e))), (λ e f. absurd (omega (arith, e))))))
    (λ (last : r ≤ q).
    let e : r ≡ q = omega (arith, d.0) in
    ⊎_elim
    (λ (more : y < u.y). absurd (not (d.0, near, d.2, (λ _ f. absurd (omega (arith, f))))))
    (λ (last' : u.y ≤ y).
    let f : u.y ≡ y = omega (arith, d.2 e) in
    ⊎_elim
    (λ (more : x < u.x). absurd (not (d.0, near, d.2, (λ _ _. omega arith))))
    (λ (last'' : u.x ≤ x). (e, same_point u.x u.y x y (omega (arith, d.3 e f)) f))
    (cases_lt x u.x))
    (cases_lt y u.y))
    (cases_lt q r))

-- the beginning and the end of a row
pub row-begun : (s : Store) (area : Area) (q y first : ℕ) → first ≡ span_from (s.n + q) area.x0 →
    AreJoinedBut s (λ r t. (q ≤ r) × IsNear s area r t × (r ≡ q → y ≤ t.y)) → AreJoinedBut s (IsDueFrom s area q y first)
row-begun s area q y first is joined =
    but-more s (λ r t. (q ≤ r) × IsNear s area r t × (r ≡ q → y ≤ t.y)) (IsDueFrom s area q y first) joined (λ r t d.
    (d.0, d.1, d.2, (λ e f. subst (λ k. k ≤ t.x) (sym is) (subst (λ k. IsNear s area k t) e d.1).left)))

pub row-done : (s : Store) (area : Area) (q y x cuts end : ℕ) → cuts ≡ cuts_of s q →
    end ≡ span_end (s.n + q) cuts area.x1 → end ≤ x → AreJoinedBut s (IsDueFrom s area q y x) →
    AreJoinedBut s (λ r t. (q ≤ r) × IsNear s area r t × (r ≡ q → y + 1 ≤ t.y))
row-done s area q y x cuts end depth is past joined =
    but-more s (IsDueFrom s area q y x) (λ r t. (q ≤ r) × IsNear s area r t × (r ≡ q → y + 1 ≤ t.y)) joined (λ r t d. (
      d.0,
      d.1,
      (λ e. ⊎_elim
          (λ (more : y < t.y). omega arith)
          (λ (last : t.y ≤ y).
          let near = subst (λ k. IsNear s area k t) e d.1 in
          let right : t.x < end = subst (λ k. t.x < k) (sym is)
          (subst (λ k. t.x < span_end (s.n + q) k area.x1) (sym depth) near.right) in
          let f : t.y ≡ y = omega (arith, d.2 e) in
          absurd (omega (arith, d.3 e f)))
          (cases_lt y t.y)),
    ))

-- of a resolution
pub level-begun : (s : Store) (area : Area) (q first : ℕ) → first ≡ span_from (s.n + q) area.y0 →
    AreJoinedBut s (λ r t. (q ≤ r) × IsNear s area r t) →
    AreJoinedBut s (λ r t. (q ≤ r) × IsNear s area r t × (r ≡ q → first ≤ t.y))
level-begun s area q first is joined =
    but-more s (λ r t. (q ≤ r) × IsNear s area r t) (λ r t. (q ≤ r) × IsNear s area r t × (r ≡ q → first ≤ t.y)) joined
    (λ r t d. (d.0, d.1, (λ e. subst (λ k. k ≤ t.y) (sym is) (subst (λ k. IsNear s area k t) e d.1).bottom)))

pub level-done : (s : Store) (area : Area) (q y cuts end : ℕ) → cuts ≡ cuts_of s q →
    end ≡ span_end (s.n + q) cuts area.y1 → end ≤ y →
    AreJoinedBut s (λ r t. (q ≤ r) × IsNear s area r t × (r ≡ q → y ≤ t.y)) →
    AreJoinedBut s (λ r t. (q + 1 ≤ r) × IsNear s area r t)
level-done s area q y cuts end depth is past joined =
    but-more s (λ r t. (q ≤ r) × IsNear s area r t × (r ≡ q → y ≤ t.y)) (λ r t. (q + 1 ≤ r) × IsNear s area r t) joined
    (λ r t d. (
      ⊎_elim
          (λ (more : q < r). omega arith)
          (λ (last : r ≤ q).
          let e : r ≡ q = omega (arith, d.0) in
          let near = subst (λ k. IsNear s area k t) e d.1 in
          let top : t.y < end = subst (λ k. t.y < k) (sym is)
          (subst (λ k. t.y < span_end (s.n + q) k area.y1) (sym depth) near.top) in
          absurd (omega (arith, d.2 e)))
          (cases_lt q r),
      d.1,
    ))

-- of all
pub all-done : (s : Store) (area : Area) (q : ℕ) → s.n ≤ s.large → top_of s < q →
    AreJoinedBut s (λ r t. (q ≤ r) × IsNear s area r t) → (r : ℕ) (u : Point) (page : Page) →
    page_at s r u ≡ Some page → AreJoined s r u page
all-done s area q fits past joined r u page at =
    let coarse = (page_at-some s r u page at).coarse in joined r u page (λ d. omega (arith, d.0)) at

-- the finer pages are not due
pub finer-done : (s : Store) (area : Area) (p q y x : ℕ) (t : Point) → q ≡ top_of s - p → 1 ≤ q → p ≤ top_of s →
    AreJoinedBut s (IsDueFrom s area q y x) → AreFinerJoined s p t
finer-done s area p q y x t is some coarse joined u finer above at =
    joined (top_of s - (p + 1)) u finer (λ d. omega (arith, d.0)) at
