-- One quarter after the other.
use Rattle.std.proofs.Common.{◌≡◌, ℕ, ◌-◌, ap₂, ◌∙◌, arith, subst}
use Rattle.mesh_defs.specs.declared.point.Point.{Point}
use Rattle.page_store.specs.Store.{Store, top_of}
use Rattle.page_store.specs.Change.{IsQuarterJoined}
use Rattle.page_store.proofs.JoinLemmas.{finer-kept, page-joined}
use Rattle.page_store.proofs.table.Table.join_page.Goals as goal

-- of one resolution all the time
top-same : {s s' : Store} {q : ℕ} {t : Point} {k : ℕ} → IsQuarterJoined s s' q t k → top_of s' ≡ top_of s
top-same j = ap₂ (λ l m. l - m) j.large j.n

at-top : {a b : Store} {m : ℕ} (p : ℕ) {t : Point} {k : ℕ} → top_of a ≡ m → IsQuarterJoined a b (top_of a - p) t k →
    IsQuarterJoined a b (m - p) t k
at-top {a} {b} p {t} {k} e j = subst (λ m. IsQuarterJoined a b (m - p) t k) e j

pub join_quarter-requires-2-clause-joined : goal.join_quarter-requires-2-clause-joined
join_quarter-requires-2-clause-joined c =
    finer-kept c.args.cuts c.requires.coarse c.join_quarter.ensures.joined c.requires.joined

pub join_quarter-requires-3-clause-joined : goal.join_quarter-requires-3-clause-joined
join_quarter-requires-3-clause-joined c =
    let e = top-same c.join_quarter.ensures.joined in
    finer-kept c.args.cuts (omega (arith, e, c.requires.coarse)) c.join_quarter-2.ensures.joined
    (finer-kept c.args.cuts c.requires.coarse c.join_quarter.ensures.joined c.requires.joined)

pub join_quarter-requires-4-clause-joined : goal.join_quarter-requires-4-clause-joined
join_quarter-requires-4-clause-joined c =
    let e = top-same c.join_quarter.ensures.joined in
    let f = top-same c.join_quarter-2.ensures.joined in
    finer-kept c.args.cuts (omega (arith, e, f, c.requires.coarse)) c.join_quarter-3.ensures.joined
    (finer-kept c.args.cuts (omega (arith, e, c.requires.coarse)) c.join_quarter-2.ensures.joined
    (finer-kept c.args.cuts c.requires.coarse c.join_quarter.ensures.joined c.requires.joined))

pub returns-clause-joined : goal.returns-clause-joined
returns-clause-joined c =
    let one = c.join_quarter.ensures.joined in
    let a : top_of c.join_quarter.new.self ≡ top_of c.args.self.now = top-same one in
    let two = at-top c.args.cuts a c.join_quarter-2.ensures.joined in
    let b : top_of c.join_quarter-2.new.self ≡ top_of c.args.self.now = top-same two ∙ a in
    let three = at-top c.args.cuts b c.join_quarter-3.ensures.joined in
    let d : top_of c.join_quarter-3.new.self ≡ top_of c.args.self.now = top-same three ∙ b in
    page-joined one two three (at-top c.args.cuts d c.join_quarter-4.ensures.joined)
