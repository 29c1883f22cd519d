use Rattle.std.proofs.Common.{arith, ◌≡◌, ℕ, false, nat_eq, refl, sym, subst, ◌∙◌}
use Rattle.std.proofs.lemmas.Bool.{false≢true}
use Rattle.mesh_laws.specs.Slots.{address_at, has_children}
use Rattle.triangle_pool.specs.Slots.{PoolState}
use Rattle.view_mesh.specs.Expiry.{IsExpired}
use Rattle.view_mesh.proofs.WalkLemmas.{IsRead, read_children, step_left, step_right, IsExpired-all, IsExpired-leaf}
use Rattle.view_mesh.proofs.walk.+expire_all_under.Goals as goal

pub expire_all_under-requires : goal.expire_all_under-requires
expire_all_under-requires t c =
    let here : ℕ = address_at c.pool-pool.result.now.pairs c.args.s.0 in
    let read : IsRead c.args.mesh.now.pool c.args.s here c.in-Some.left c.in-Some.right =
    read_children c.pool-pool.result.now c.args.mesh.now.pool c.args.s here c.in-Some.left c.in-Some.right
    c.pool-pool.ensures.pool c.pool-pool.ensures.valid c.requires.live refl
    (λ none. absurd (false≢true (sym (c.in-Some.ensures.none.1 none)))) c.in-Some.ensures.some in
    let step = step_left c.args.mesh.now.pool c.expire_at.new.self.pool c.args.s here c.in-Some.left
    c.in-Some.right c.expire_at.ensures.pool read in
    (omega (arith, step.0), step.1)

pub expire_all_under-requires-in-Some : goal.expire_all_under-requires-in-Some
expire_all_under-requires-in-Some t c =
    let here : ℕ = address_at c.pool-pool.result.now.pairs c.args.s.0 in
    let read : IsRead c.args.mesh.now.pool c.args.s here c.in-Some.left c.in-Some.right =
    read_children c.pool-pool.result.now c.args.mesh.now.pool c.args.s here c.in-Some.left c.in-Some.right
    c.pool-pool.ensures.pool c.pool-pool.ensures.valid c.requires.live refl
    (λ none. absurd (false≢true (sym (c.in-Some.ensures.none.1 none)))) c.in-Some.ensures.some in
    let step = step_right c.args.mesh.now.pool c.expire_all_under.new.mesh.pool c.args.s here c.in-Some.left
    c.in-Some.right (c.expire_all_under.ensures.pool ∙ c.expire_at.ensures.pool) read in
    (omega (arith, step.0), step.1)

pub returns-in-Some : goal.returns-in-Some
returns-in-Some t c =
    let x = c.args.mesh.now in
    let here : ℕ = address_at c.pool-pool.result.now.pairs c.args.s.0 in
    let read : IsRead x.pool c.args.s here c.in-Some.left c.in-Some.right =
    read_children c.pool-pool.result.now x.pool c.args.s here c.in-Some.left c.in-Some.right
    c.pool-pool.ensures.pool c.pool-pool.ensures.valid c.requires.live refl
    (λ none. absurd (false≢true (sym (c.in-Some.ensures.none.1 none)))) c.in-Some.ensures.some in
    let own : IsExpired x c.expire_at.new.self (nat_eq (address_at x.pool.pairs c.args.s.0)) =
    record { pool = c.expire_at.ensures.pool; stamps = c.expire_at.ensures.stamps } in
    IsExpired-all x c.expire_at.new.self c.expire_all_under.new.mesh c.expire_all_under-in-Some.new.mesh c.args.s here
    c.in-Some.left c.in-Some.right read
    (subst (λ z. IsExpired x c.expire_at.new.self (nat_eq z)) (sym read.at) own)
    c.expire_all_under.ensures c.expire_all_under-in-Some.ensures

pub returns-in_default : goal.returns-in_default
returns-in_default t c =
    let x = c.args.mesh.now in
    let own : IsExpired x c.expire_at.new.self (nat_eq (address_at x.pool.pairs c.args.s.0)) =
    record { pool = c.expire_at.ensures.pool; stamps = c.expire_at.ensures.stamps } in
    let whole : has_children x.pool.pairs (address_at x.pool.pairs c.args.s.0) ≡ false =
    subst (λ (z : PoolState). has_children z.pairs (address_at z.pairs c.args.s.0) ≡ false) c.pool-pool.ensures.pool
    (c.in_default.ensures.none.0 (cc)) in
    IsExpired-leaf x c.expire_at.new.self c.args.s.0 (address_at x.pool.pairs c.args.s.0) c.pool-pool.ensures.only
    c.pool-pool.ensures.valid c.requires.live refl whole own
