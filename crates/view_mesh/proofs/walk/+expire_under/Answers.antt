use Rattle.std.proofs.Common.{arith, ◌≡◌, ◌*◌, ◌≤◌, ◌&&◌, true, false, nat_eq, sym, subst, ◌∙◌, ap}
use Rattle.std.proofs.lemmas.Bool.{false≢true}
use Rattle.mesh_defs.specs.Triangle.{level_of}
use Rattle.mesh_laws.specs.Slots.{address_at, has_children}
use Rattle.triangle_pool.specs.Slots.{PoolState}
use Rattle.view_mesh.specs.Expiry.{IsExpired}
use Rattle.mesh_arrays.specs.Below.{is_at_or_below}
use Rattle.view_mesh.proofs.BelowLemmas.{live_address}
use Rattle.view_mesh.proofs.WalkLemmas.{IsRead, read_children, step_left, step_right, IsExpired-itself}
use Rattle.view_mesh.proofs.WalkLemmas.{IsExpired-tested, IsExpired-tested_leaf, IsExpired-untouched}
use Rattle.view_mesh.proofs.WalkLemmas.{IsExpired-passed}
use Rattle.view_mesh.proofs.walk.+expire_under.Goals as goal

pub at-expiring-requires-clause-level : goal.at-expiring-requires-clause-level
at-expiring-requires-clause-level g t c =
    let fits = live_address c.args.mesh.now.pool.n c.args.mesh.now.pool.pairs c.args.s.0
    c.pool-pool.ensures.valid c.requires.live in
    let at : c.tri-t.result ≡ address_at c.args.mesh.now.pool.pairs c.args.s.0 =
    c.tri-t.ensures.value ∙ ap (λ (z : PoolState). address_at z.pairs c.args.s.0) c.pool-pool.ensures.pool in
    subst (λ n. level_of c.tri-t.result ≤ 2 * n) c.requires.n
    (subst (λ z. level_of z ≤ 2 * c.args.mesh.now.pool.n) (sym at) fits)

pub expire_under-requires : goal.expire_under-requires
expire_under-requires g t c κs within =
    let read : IsRead c.args.mesh.now.pool c.args.s c.tri-t.result c.in-Some.left c.in-Some.right =
    read_children c.pool-pool.result.now c.args.mesh.now.pool c.args.s c.tri-t.result c.in-Some.left c.in-Some.right
    c.pool-pool.ensures.pool c.pool-pool.ensures.valid c.requires.live
    c.tri-t.ensures.value (λ none. absurd (false≢true (sym (c.in-Some.ensures.none.1 none)))) c.in-Some.ensures.some in
    let step = step_left c.args.mesh.now.pool c.expire_if.new.mesh.pool c.args.s c.tri-t.result c.in-Some.left
    c.in-Some.right c.expire_if.ensures.pool read in
    (omega (arith, step.0), (within, (step.1, ap (λ (p : PoolState). p.n) c.expire_if.ensures.pool ∙ c.requires.n)))

pub expire_under-requires-in-Some : goal.expire_under-requires-in-Some
expire_under-requires-in-Some g t c κs within =
    let read : IsRead c.args.mesh.now.pool c.args.s c.tri-t.result c.in-Some.left c.in-Some.right =
    read_children c.pool-pool.result.now c.args.mesh.now.pool c.args.s c.tri-t.result c.in-Some.left c.in-Some.right
    c.pool-pool.ensures.pool c.pool-pool.ensures.valid c.requires.live
    c.tri-t.ensures.value (λ none. absurd (false≢true (sym (c.in-Some.ensures.none.1 none)))) c.in-Some.ensures.some in
    let same = c.expire_under.ensures.pool ∙ c.expire_if.ensures.pool in
    let step = step_right c.args.mesh.now.pool c.expire_under.new.mesh.pool c.args.s c.tri-t.result c.in-Some.left
    c.in-Some.right same read in
    (omega (arith, step.0), (within, (step.1, ap (λ (p : PoolState). p.n) same ∙ c.requires.n)))

pub returns-in-Some : goal.returns-in-Some
returns-in-Some g t c =
    let x = c.args.mesh.now in
    let at : c.tri-t.result ≡ address_at x.pool.pairs c.args.s.0 =
    c.tri-t.ensures.value ∙ ap (λ (z : PoolState). address_at z.pairs c.args.s.0) c.pool-pool.ensures.pool in
    let read : IsRead x.pool c.args.s c.tri-t.result c.in-Some.left c.in-Some.right =
    read_children c.pool-pool.result.now x.pool c.args.s c.tri-t.result c.in-Some.left c.in-Some.right
    c.pool-pool.ensures.pool c.pool-pool.ensures.valid c.requires.live
    c.tri-t.ensures.value (λ none. absurd (false≢true (sym (c.in-Some.ensures.none.1 none)))) c.in-Some.ensures.some in
    let told : IsExpired x c.expire_if.new.mesh (λ a. nat_eq c.tri-t.result a && c.at-expiring.result.itself) =
    subst (λ z. IsExpired x c.expire_if.new.mesh (λ a. nat_eq z a && c.at-expiring.result.itself))
    (sym at) c.expire_if.ensures in
    IsExpired-tested (g.E.Expiry.expires c.args.expiry.now) x c.expire_if.new.mesh c.expire_under.new.mesh
    c.expire_under-in-Some.new.mesh c.args.s c.tri-t.result c.in-Some.left c.in-Some.right read
    (IsExpired-itself x c.expire_if.new.mesh c.tri-t.result
    (g.E.Expiry.expires c.args.expiry.now) c.at-expiring.result.itself c.at-expiring.ensures.itself told)
    c.expire_under.ensures c.expire_under-in-Some.ensures

pub returns-in_default : goal.returns-in_default
returns-in_default g t c =
    let x = c.args.mesh.now in
    let at : c.tri-t.result ≡ address_at x.pool.pairs c.args.s.0 =
    c.tri-t.ensures.value ∙ ap (λ (z : PoolState). address_at z.pairs c.args.s.0) c.pool-pool.ensures.pool in
    let told : IsExpired x c.expire_if.new.mesh (λ a. nat_eq c.tri-t.result a && c.at-expiring.result.itself) =
    subst (λ z. IsExpired x c.expire_if.new.mesh (λ a. nat_eq z a && c.at-expiring.result.itself))
    (sym at) c.expire_if.ensures in
    let whole : has_children x.pool.pairs c.tri-t.result ≡ false =
    subst (λ (z : PoolState). has_children z.pairs c.tri-t.result ≡ false) c.pool-pool.ensures.pool
    (subst (λ z. has_children c.pool-pool.result.now.pairs z ≡ false) (sym c.tri-t.ensures.value)
    (c.in_default.ensures.none.0 (cc))) in
    IsExpired-tested_leaf (g.E.Expiry.expires c.args.expiry.now) x c.expire_if.new.mesh c.args.s.0
    c.tri-t.result c.pool-pool.ensures.only c.pool-pool.ensures.valid
    (subst (λ z. 2 ≤ z) (sym at) c.requires.live) at whole
    (IsExpired-itself x c.expire_if.new.mesh c.tri-t.result
    (g.E.Expiry.expires c.args.expiry.now) c.at-expiring.result.itself c.at-expiring.ensures.itself told)

pub returns-in-Nothing : goal.returns-in-Nothing
returns-in-Nothing g t c =
    let x = c.args.mesh.now in
    let at : c.tri-t.result ≡ address_at x.pool.pairs c.args.s.0 =
    c.tri-t.ensures.value ∙ ap (λ (z : PoolState). address_at z.pairs c.args.s.0) c.pool-pool.ensures.pool in
    IsExpired-untouched (g.E.Expiry.expires c.args.expiry.now) x c.args.s.0 c.pool-pool.ensures.only
    c.pool-pool.ensures.valid
    (λ a under level. c.at-expiring.ensures.nothing (cc) a (subst (λ z. is_at_or_below z a ≡ true) (sym at) under)
    (subst (λ n. level_of a ≤ 2 * n) c.requires.n level))

pub returns-in-Everything : goal.returns-in-Everything
returns-in-Everything g t c =
    let x = c.args.mesh.now in
    let at : c.tri-t.result ≡ address_at x.pool.pairs c.args.s.0 =
    c.tri-t.ensures.value ∙ ap (λ (z : PoolState). address_at z.pairs c.args.s.0) c.pool-pool.ensures.pool in
    IsExpired-passed (g.E.Expiry.expires c.args.expiry.now) x c.expire_all_under.new.mesh c.args.s.0
    c.pool-pool.ensures.only c.pool-pool.ensures.valid
    (λ a under level. c.at-expiring.ensures.everything (cc) a (subst (λ z. is_at_or_below z a ≡ true) (sym at) under)
    (subst (λ n. level_of a ≤ 2 * n) c.requires.n level))
    c.expire_all_under.ensures
