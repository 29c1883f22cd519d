-- The laws of pages and heights, of priorities and of stamps, together.
use Rattle.std.proofs.Common.{◌≡◌, ℕ, ◌||◌, nat_eq, Bool, refl, sym, ◌∙◌, ap, subst}
use Rattle.std.specs.Option.{is_some}
use Rattle.std.proofs.lemmas.Bool.{and_parts}
use Rattle.std.proofs.lemmas.Option.{none-some}
use Rattle.mesh_defs.specs.declared.point.Point.{Point}
use Rattle.mesh_laws.specs.Edge.{mate_of}
use Rattle.triangle_pool.specs.Slots.{PoolState}
use Rattle.page_laws.specs.Pages.{Pages, is_known}
use Rattle.page_store.specs.Store.{page_at, pages_of, height_in}
use Rattle.page_priority.specs.Loaded.{LoadedState, loaded_priority, loaded_from}
use Rattle.world_loop.specs.World.{loaded_of, sight_of}
use Rattle.world_loop.proofs.PagingLemmas.{is_some-grid, pages_of-loaded}
use Rattle.world_loop.proofs.TurnLemmas.{unturned-same}
use Rattle.world_loop.proofs.laws.change_laws.Goals as goal

pub returns-clause-page : goal.returns-clause-page
returns-clause-page c s more q t view large n others coarse pyramid agree a low apart to =
    let w : Pages = pages_of s in
    let loaded : ℕ → Point → Bool = λ r u. is_some (page_at more r u) in
    let elsewhere : (r : ℕ) (u : Point) → (r ≡ q → u ≡ t → ⊥) → w.loaded r u ≡ loaded r u = λ r u not.
    sym (is_some-grid (page_at s r u)) ∙ ap is_some (sym (others r u not)) ∙ is_some-grid (page_at more r u) in
    let here : LoadedState = record { pages = w; height = height_in s; view = view } in
    let there : LoadedState = record { pages = record w { loaded = loaded }; height = height_in more; view = view } in
    subst (λ (pages : Pages). loaded_priority (loaded_from to (record there { pages = pages })) a
    ≡ loaded_priority (loaded_from to here) a) (sym (pages_of-loaded s more large n))
    (c.loaded_laws.ensures.same here there to a refl refl
    (sym (c.area_laws.ensures.«open» w loaded q t a elsewhere coarse low apart))
    (λ is. sym (c.area_laws.ensures.wedge w loaded q t (height_in more) a elsewhere coarse low apart)
    ∙ sym (c.height_laws.ensures.same_heights w (height_in s) (height_in more) a pyramid (λ p l. sym (agree p l))
    (and_parts (is_known w a) (nat_eq (mate_of a) 0 || is_known w (mate_of a)) is).0)))

pub returns-clause-heights : goal.returns-clause-heights
returns-clause-heights c s more area view pages others a low apart to =
    let here : LoadedState = record { pages = pages_of s; height = height_in s; view = view } in
    let there : LoadedState = record here { height = height_in more } in
    subst (λ (w : Pages). loaded_priority (loaded_from to (record there { pages = w })) a
    ≡ loaded_priority (loaded_from to here) a) (sym pages)
    (c.loaded_laws.ensures.same here there to a refl refl refl (λ is.
    c.height_laws.ensures.elsewhere s.large (height_in more) (height_in s) (is_known (pages_of s)) area a others low
    apart))

pub returns-clause-planes : goal.returns-clause-planes
returns-clause-planes c = unturned-same c.loaded_laws.ensures.planes

pub returns-clause-again : goal.returns-clause-again
returns-clause-again c w leaves most still store view mesh expired kept only large camera spacing is same =
    let world = kept.0 in
    let pool : mesh.pool ≡ w.mesh.pool = is.pool in (
      record {
        n = ap (λ (p : PoolState). p.n) pool ∙ world.n ∙ sym large;
        most_low = world.most_low;
        most_high = world.most_high;
        room = rw (pool, large) world.room;
        budget_low = world.budget_low;
        budget_high = world.budget_high;
        spacing_low = rw spacing world.spacing_low;
        spacing_high = rw spacing world.spacing_high;
        far = world.far;
        kept = c.sight_laws.ensures.edited (sight_of w.pace (loaded_of w))
            (sight_of w.pace (loaded_of (record w { store = store; view = view }))) w.odometer w.mesh mesh expired camera world.n
            only is same world.kept;
      },
      rw (pool, large) kept.1,
      rw pool kept.2,
      λ note none. absurd (none-some note none),
    )
