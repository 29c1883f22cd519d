-- `around` takes the pointer out of the box.
use Rattle.std.proofs.Common.{◌≡◌, List, [], ◌∷◌, ◌++◌, refl, sym, ap, ◌∙◌, subst, lit<, w64}
use mir.Raw.{raw as bare}
use mir.Val.{Val, vint, vptr}
use base.Fraction.{full_share}
use base.Logic.{SProp, ent, emp, never, id⊢, fst∗}
use base.Fml.{ftrue, flft}
use prog.Wp.{WpFn}
use types.Logic.{sem}
use types.Kit.{‵, raw, ◌⊛◌, some, later, ◌$◌, ◌∵◌, !, qed, by, move, keep, drop, split, join, fsplit, fjoin, pick}
use types.Kit.{suffices, use0, use1, await, feq_l, rewrite}
use types.Run.{of_opd, no_more, and_then, returns, enter}
use types.ByLocal.{alloc_all, pass_all, free_all, look_at, get, sets, lands_as}
use types.Part.{agg}
use contract.BorrowLft.{◌⊑◌, ⊑_static}
use contract.Monad.{fact, fact_i}
use contract.Running.{tables}
use denote.Exit.{yes}
use denote.RattleType.{RattleType, owns}
use denote.Builtin.{RawPtr}
use denote.RawPtr.{Ptr, ptr_val, block_ptr, null_ptr, in_a_block}
use denote.Signature.{types_at, plain}
use denote.Steps.{nothing, only}
use denote.Param.{layout}
use denote.Triple.Clauses.{Lasts, lasts}
use denote.Triple.Entry.{alive}
use denote.Triple.Spec.{triple_of}
use denote.Triple.Call.{calls_at}
use denote.Triple.Walked.{Stays, stay_dropped, walk_of}
use Rattle.core.proofs.alloc.Calls.{Goes-blank}
use Rattle.core.proofs.atomic.Steps.{fm}
use Rattle.core.proofs.cell.Inside.{one}
use Rattle.std.proofs.raw_atomic.Walks.{proved_at, leaves}
use Rattle.std.proofs.impls.GlobalAllocator.TheImpl.Met as allocator
use Rattle.std.specs.contracts.impls.GlobalAllocator.TheImpl.{ghosts, dict}
use Rattle.std.specs.contracts.alloc.Global as heap
use Rattle.std.specs.declared.option.Option.{Option}
use Rattle.std.specs.declared.option.Option.TheVariants.{Some}
use Rattle.std_alloc.specs.contracts.boxed.Box as boxed
use Rattle.std_alloc.specs.contracts.boxed.Box.into_raw as callee
use Rattle.std_alloc.proofs.boxed.Box.into_raw.Met.{met}
use Rattle.roam_c.proofs.Destruct++none.drop.Symbol.{glues}
use Rattle.roam_c.specs.contracts.kept.Kept as kept
use Rattle.roam_c.specs.declared.kept.Kept.{Kept}
use Rattle.roam_c.specs.Held.{token, held}
use Rattle.roam_c.specs.declared.mark.TheConstants.{MARK}
use Rattle.roam_c.proofs.Calls.{R, L, Z, LZ, drops, no_drop, box_laws, glue}
use Rattle.roam_c.proofs.HandleValues.{two, big_lit, handle_good, handle_in}
use Rattle.roam_c.specs.contracts.handle.around.{ended, clauses}
use Rattle.roam_c.specs.contracts.handle.around.Key.{name as #self}
use Rattle.roam_c.proofs.handle.around.Statement.{statement}
use Rattle.roam_c.proofs.handle.around.Code as code

pub around_spec : {M : Type 1} → statement M
around_spec {M = M} 𝓤 𝓛 𝓜 𝓡 wired =
    let H = 𝓛.H in
    let 𝓣 = tables 𝓤 H 𝓜 𝓡 𝓡.env in
    let En = ended in
    let c = clauses 𝓛 𝓜.mem 𝓡.returns in
    let fn = code.function in
    let B : RattleType = boxed.the_row kept.the_row heap.the_row ghosts in
    let known = met 𝓤 𝓛 𝓜 𝓡 (code.calls-std_alloc::boxed::Box::into_raw 𝓡.env wired) R Z L LZ ghosts dict no_drop drops
    (allocator.passed 𝓡.env (code.calls-std_heap::GlobalAllocator::allocate 𝓡.env wired)
    (code.calls-std_heap::GlobalAllocator::deallocate 𝓡.env wired)
    (code.calls-std_heap::GlobalAllocator::grow 𝓡.env wired)
    (code.calls-std_heap::GlobalAllocator::shrink 𝓡.env wired) M 𝓤 𝓛 𝓜 𝓡)
    (glues 𝓡.env (code.calls-roam_c::Destruct++none::drop 𝓡.env wired) Z LZ M 𝓤 𝓛 𝓜 𝓡)
    (glue 𝓤 𝓛 𝓜 𝓡 (code.calls-roam_c::roam_c++kept++Kept+Destruct::drop 𝓡.env wired)) in
    let hs : Stays En.signature.params En.kept = (stay_dropped (plain (λ _. B)) yes, tt) in
    proved_at 𝓛 En hs c 𝓜 𝓡 (Goes-blank 𝓛 0 (plain (λ _. B)) yes (λ κs x f. tt), tt) #self fn
    (code.unfolded 𝓤 H 𝓜 𝓡 wired) (λ z are.
    let κs = z.0.0 in
    let qs = z.0.1 in
    let v = z.0.3.0 in
    let Post : Val → SProp 𝓤 = (walk_of 𝓛 En hs c).post z in
    let Run : List Val → SProp 𝓤 = λ us. WpFn 𝓤 H 𝓣.C 𝓣.Λ fn us Post in
    let k = triple_of 𝓛 (callee.signature R Z ghosts dict no_drop drops)
    (callee.spec R Z ghosts dict no_drop drops 𝓛 𝓜.mem 𝓡.returns) in
    let toks = ‵ (flft [] full_share) ⊛ ‵ (flft [] full_share) ⊛ ‵ ftrue in
    qed 𝓛 ((raw (alive 𝓛 En.signature κs qs) ⊛ ‵ (owns (types_at En.signature.params κs) z.0.3 z.0.4))
    ∷ raw ((c κs z.0.3).requires z.1) ∷ []) ∵ split ! $ move ! (1 ∷ []) $ fsplit ! $ move ! (1 ∷ []) $ drop ! $
    let g = one (layout B) z.0.4.0 ((box_laws.lawful 𝓛).typed v z.0.4.0 are.0) in
    let w : Val = g.0 in
    rewrite ! 0 (λ (us : List Val). ‵ (B.own_val v us)) g.1 refl $
    let y : k.Ghost = ((([], ([], tt)), (full_share, (full_share, tt)), tt, (v, tt), (w ∷ [], tt)), tt) in
    nothing ! $ move ! (1 ∷ 0 ∷ []) $ fjoin ! $ nothing ! $
    use0 𝓛 (‵ (flft [] full_share)) (𝓛.lfts.lft-nil full_share) $ join ! $
    use0 𝓛 (‵ (flft [] full_share)) (𝓛.lfts.lft-nil full_share) $ join ! $ join ! $
    nothing ! $ use0 𝓛 (raw (fact 𝓤 ([] ⊑ Z.lives))) (fact_i 𝓤 ([] ⊑ Z.lives) (emp 𝓤) (⊑_static [])) $ join ! $
    use0 𝓛 (raw (fact 𝓤 ([] ⊑ R.lives))) (fact_i 𝓤 ([] ⊑ R.lives) (emp 𝓤) (⊑_static [])) $ join ! $
    move ! (1 ∷ 0 ∷ []) $ join ! $ use1 𝓛 (raw (k.pre y)) (id⊢ 𝓤 _) $
    suffices ! (Run (w ∷ [])) (subst (λ (us : List Val). ent 𝓤 (Run (w ∷ [])) (Run us)) (sym (λ i. g.1 i ++ []))
    (id⊢ 𝓤 (Run (w ∷ [])))) $
    enter ! 𝓣.C 𝓣.Λ fn (w ∷ []) Post $
    alloc_all ! (λ l. pass_all ! refl (g.2, tt) $ sets ! (of_opd ! (get ! refl)) refl g.2 $
    calls_at ! (fm 𝓛 𝓜 𝓡) k known y (and_then ! (get ! refl) (no_more !)) (λ u.
    use1 𝓛 (later (some (λ (r : Ptr). (toks ⊛ ‵ (RawPtr.own_val r (u ∷ []))) ⊛ some
    (λ (ls : Lasts (callee.ended R Z ghosts dict no_drop drops) ([], ([], tt)) y.0.3). ‵ (lasts
    (callee.ended R Z ghosts dict no_drop drops) ([], ([], tt)) y.0.3 ls) ⊛ ‵ (held r v.value))))) (id⊢ 𝓤 _) $
    await ! tt $ pick ! (λ r. split ! $ move ! (1 ∷ []) $ pick ! (λ _. split ! $ drop ! $
    in_a_block ! r (λ p. held p v.value) (fst∗ 𝓤 (never 𝓤) (sem 𝓛 (token (bare (layout R)) null_ptr)))
    (λ b' o' at. move ! (1 ∷ []) $ split ! $ drop ! $ feq_l ! (λ eu.
    let p : Ptr = block_ptr b' o' in let it : Option Kept = Some v.value in
    lands_as ! (ap only eu ∙ ap ptr_val at) refl (tt, tt) $ sets ! (of_opd ! (get ! refl)) refl (tt, tt) $
    sets ! (agg ! (and_then ! (big_lit ! (record { fits = lit< tt })) (and_then ! (get ! refl) (no_more !)))) refl
    (handle_good MARK (lit< tt) p) $
    handle_in ! MARK (lit< tt) p it $ use0 𝓛 (raw (fact 𝓤 (it ≡ it))) (fact_i 𝓤 (it ≡ it) (emp 𝓤) refl) $
    nothing ! $ nothing ! $ fjoin ! $
    returns ! (look_at ! 0 refl) $ free_all ! refl $ keep ! (3 ∷ 0 ∷ 2 ∷ 1 ∷ []) $ by ! (leaves 𝓛 En hs c z
    (two (vint w64 MARK) (vptr b' o')) (record { mark = MARK; at = p; value = it }) (tt, tt) (tt, tt)))))))))
