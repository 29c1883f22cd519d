-- `open` makes the box again of a full handle.
use Rattle.std.proofs.Common.{◌≡◌, List, [], ◌∷◌, ◌++◌, refl, sym, ap, ◌∙◌, subst, lit<, w64}
use mathlib.Core.Bool.{Bool, true, false, not}
use lib.Dec.{T}
use mir.Syntax.{w8, int, copy, place, rv_opd, aggregate, assign, seq}
use mir.Val.{Val, vint, vptr, vcons, vnil}
use base.Fraction.{full_share}
use base.Logic.{SProp, ent, emp, id⊢}
use base.Fml.{ftrue, flft}
use prog.Wp.{Wp, WpFn, after_seq, at_return}
use types.Kit.{any_q, ‵, raw, ◌⊛◌, some, later, at_ret, ◌$◌, ◌∵◌, !, qed, by, move, keep, drop, split, split3, join}
use types.Kit.{fsplit, fjoin, pick, suffices, use0, use1, await, rewrite, feq_i}
use types.Run.{stop, fld, lit, bin, of_opd, no_more, and_then, first, blocks, branches, exec, returns, enter}
use types.ByLocal.{alloc_all, pass_all, free_all, look_at, get, get_in, sets, sets_last, lands_last, env}
use types.Part.{agg, sub, whole}
use types.Match.{live}
use contract.BorrowLft.{◌⊑◌, ⊑_static}
use contract.Monad.{fact, fact_i}
use contract.Running.{tables}
use denote.Exit.{yes}
use denote.RattleType.{RattleType, owns}
use denote.RawPtr.{Ptr, ptr_val, block_ptr}
use denote.Signature.{types_at, type_at, plain}
use denote.Laws.{Is, shows}
use denote.Steps.{peeks, nothing, only, heard}
use denote.Param.{layout}
use denote.Triple.Clauses.{Lasts, lasts}
use denote.Triple.Entry.{alive}
use denote.Triple.Spec.{triple_of}
use denote.Triple.Call.{calls_at_last}
use denote.Triple.Walked.{Stays, stay_dropped, walk_of, Goes-dropped}
use Rattle.core.proofs.alloc.Calls.{Goes-blank}
use Rattle.core.proofs.alloc.Shapes.{after}
use Rattle.core.proofs.atomic.Steps.{fm, Ptr-Good}
use Rattle.core.proofs.cell.Inside.{Good, one}
use Rattle.core.proofs.option.Made.{Some-of, none_of}
use Rattle.core.specs.declared.option.Option.TheVariants.{None, Some}
use Rattle.std.proofs.raw_atomic.Walks.{proved_at, leaves}
use Rattle.std.proofs.alloc.Global.TheLaws as heap_laws
use Rattle.std.proofs.impls.GlobalAllocator.TheImpl.Met as allocator
use Rattle.std.specs.contracts.alloc.Global as heap
use Rattle.std.specs.contracts.impls.GlobalAllocator.TheImpl.{ghosts, dict}
use Rattle.std_alloc.proofs.ResultValues.{and_tt}
use Rattle.std_alloc.specs.contracts.boxed.Box as boxed
use Rattle.std_alloc.specs.contracts.boxed.Box.from_raw as callee
use Rattle.std_alloc.proofs.boxed.Box.from_raw.Met.{met}
use Rattle.roam_c.specs.contracts.kept.Kept as kept
use Rattle.roam_c.proofs.Destruct++none.drop.Symbol.{glues}
use Rattle.roam_c.proofs.Calls.{R, L, Z, LZ, no_drop, box_laws}
use Rattle.roam_c.proofs.HandleValues.{two, big_lit, word-Good, handle_good, handle_out, either_held}
use Rattle.roam_c.specs.Held.{is_mark}
use Rattle.roam_c.specs.declared.mark.TheConstants.{MARK}
use Rattle.roam_c.specs.contracts.handle.Handle as handle
use Rattle.roam_c.specs.contracts.handle.open.{ended, clauses}
use Rattle.roam_c.specs.contracts.handle.open.Key.{name as #self}
use Rattle.roam_c.proofs.handle.open.Statement.{statement}
use Rattle.roam_c.proofs.handle.open.Code as code

pub open_spec : {M : Type 1} → statement M
open_spec {M = M} 𝓤 𝓛 𝓜 𝓡 wired =
    let H = 𝓛.H in
    let 𝓣 = tables 𝓤 H 𝓜 𝓡 𝓡.env in
    let En = ended in
    let c = clauses 𝓛 𝓜.mem 𝓡.returns in
    let fn = code.function in
    let B : RattleType = boxed.the_row kept.the_row heap.the_row ghosts in
    let known = met 𝓤 𝓛 𝓜 𝓡 (code.calls-std_alloc::boxed::Box::from_raw 𝓡.env wired) R Z L LZ ghosts dict no_drop
    (allocator.passed 𝓡.env (code.calls-std_heap::GlobalAllocator::allocate 𝓡.env wired)
    (code.calls-std_heap::GlobalAllocator::deallocate 𝓡.env wired)
    (code.calls-std_heap::GlobalAllocator::grow 𝓡.env wired)
    (code.calls-std_heap::GlobalAllocator::shrink 𝓡.env wired) M 𝓤 𝓛 𝓜 𝓡)
    (glues 𝓡.env (code.calls-roam_c::Destruct++none::drop 𝓡.env wired) Z LZ M 𝓤 𝓛 𝓜 𝓡) in
    let hs : Stays En.signature.params En.kept =
    (stay_dropped (plain (λ _. handle.the_row)) yes, (stay_dropped (plain (λ _. heap.the_row)) yes, tt)) in
    proved_at 𝓛 En hs c 𝓜 𝓡 (
      Goes-blank 𝓛 0 (plain (λ _. handle.the_row)) yes (λ κs x f. tt),
      (Goes-dropped 𝓛 0 (plain (λ _. heap.the_row)) yes (λ κs x f. refl), tt),
    ) #self fn (code.unfolded 𝓤 H 𝓜 𝓡 wired) (λ z are.
    let κs = z.0.0 in
    let qs = z.0.1 in
    let d = z.0.3.0 in
    let a = z.0.3.1.0 in
    let vs = z.0.4.0 in
    let Post : Val → SProp 𝓤 = (walk_of 𝓛 En hs c).post z in
    let Run : List Val → SProp 𝓤 = λ us. WpFn 𝓤 H 𝓣.C 𝓣.Λ fn us Post in
    let Out : RattleType = type_at En.signature.result κs in
    let h = one (layout heap.the_row) z.0.4.1.0 ((heap_laws.the_row_laws.lawful 𝓛).typed a z.0.4.1.0 are.1.0) in
    qed 𝓛 ((raw (alive 𝓛 En.signature κs qs) ⊛ ‵ (owns (types_at En.signature.params κs) z.0.3 z.0.4))
    ∷ raw ((c κs z.0.3).requires z.1) ∷ []) ∵ split ! $ move ! (1 ∷ []) $ fsplit ! $
    handle_out ! d vs (λ fits ws. move ! (1 ∷ []) $ fsplit ! $ move ! (1 ∷ []) $ drop ! $
    rewrite ! 0 (λ (us : List Val). ‵ (Z.own_val a us)) h.1 refl $ move ! (1 ∷ []) $
    either_held ! (is_mark d.mark) d.at d.value
    (λ e0 en. drop ! $ let w : Val = two (vint w64 d.mark) (ptr_val d.at) in let isw : vs ≡ w ∷ [] = ws in
    suffices ! (Run (w ∷ h.0 ∷ [])) (subst (λ (us : List Val). ent 𝓤 (Run (w ∷ h.0 ∷ [])) (Run us))
    (sym (λ i. isw i ++ (h.1 i ++ []))) (id⊢ 𝓤 (Run (w ∷ h.0 ∷ [])))) $
    enter ! 𝓣.C 𝓣.Λ fn (w ∷ h.0 ∷ []) Post $
    alloc_all ! (λ l. pass_all ! refl (handle_good d.mark fits d.at, (h.2, tt)) $ let Ev = env fn.locals l in
    sets ! (of_opd ! (get_in ! (fld ! refl (stop !)) (sub ! 0 refl (whole !)))) refl (word-Good d.mark fits) $
    sets ! (of_opd ! (get_in ! (fld ! refl (stop !)) (sub ! 1 refl (whole !)))) refl (Ptr-Good d.at) $
    sets ! (of_opd ! (get ! refl)) refl (word-Good d.mark fits) $
    sets ! (bin ! (get ! refl) (big_lit ! (record { fits = lit< tt })) tt) refl (tt, tt) $ first ! $
    branches ! (get ! refl) (λ wrong. absurd (subst T e0 wrong)) (λ _.
    sets_last ! (agg ! (and_then ! (lit ! tt) (no_more !))) refl (tt, (record { fits = lit< tt }, tt)) $
    exec ! 𝓣.C 𝓣.Λ Ev (after 5 fn.body) (at_ret Ev Post) $
    sets ! (of_opd ! (get ! refl)) refl (tt, (record { fits = lit< tt }, tt)) $
    use0 𝓛 (‵ (Out.own_val None (live 0 vnil ∷ []))) (none_of 𝓛 B) $
    use0 𝓛 (raw (fact 𝓤 (d.value ≡ None))) (fact_i 𝓤 (d.value ≡ None) (emp 𝓤) en) $ nothing ! $ nothing ! $
    fjoin ! $ nothing ! $ fjoin ! $
    returns ! (look_at ! 0 refl) $ free_all ! refl $ keep ! (3 ∷ 0 ∷ 2 ∷ 1 ∷ []) $
    by ! (leaves 𝓛 En hs c z (live 0 vnil) None (tt, (tt, tt)) (tt, (tt, tt))))))
    (λ b o x e1 ex ep. let w : Val = two (vint w64 d.mark) (vptr b o) in
    let isw : vs ≡ w ∷ [] = subst (λ (p : Ptr). vs ≡ two (vint w64 d.mark) (ptr_val p) ∷ []) ep ws in
    let k = triple_of 𝓛 (callee.signature R Z ghosts dict no_drop)
    (callee.spec R Z ghosts dict no_drop 𝓛 𝓜.mem 𝓡.returns) in
    let toks = ‵ (flft [] full_share) ⊛ ‵ (flft [] full_share) ⊛ ‵ ftrue in
    let y : k.Ghost = (
      (([], ([], tt)), (full_share, (full_share, tt)), tt, (a, (block_ptr b o, tt)), (h.0 ∷ [], (vptr b o ∷ [], tt))),
      x,
    ) in
    use0 𝓛 (raw (fact 𝓤 ([] ⊑ Z.lives))) (fact_i 𝓤 ([] ⊑ Z.lives) (emp 𝓤) (⊑_static [])) $ join ! $
    use0 𝓛 (raw (fact 𝓤 ([] ⊑ R.lives))) (fact_i 𝓤 ([] ⊑ R.lives) (emp 𝓤) (⊑_static [])) $ join ! $
    nothing ! $ feq_i ! (List Val) (vptr b o ∷ []) (vptr b o ∷ []) refl $ fjoin ! $ move ! (2 ∷ 0 ∷ []) $ fjoin ! $
    nothing ! $ use0 𝓛 (‵ (flft [] full_share)) (𝓛.lfts.lft-nil full_share) $ join ! $
    use0 𝓛 (‵ (flft [] full_share)) (𝓛.lfts.lft-nil full_share) $ join ! $ join ! $ join ! $
    use1 𝓛 (raw (k.pre y)) (id⊢ 𝓤 _) $
    suffices ! (Run (w ∷ h.0 ∷ [])) (subst (λ (us : List Val). ent 𝓤 (Run (w ∷ h.0 ∷ [])) (Run us))
    (sym (λ i. isw i ++ (h.1 i ++ []))) (id⊢ 𝓤 (Run (w ∷ h.0 ∷ [])))) $
    enter ! 𝓣.C 𝓣.Λ fn (w ∷ h.0 ∷ []) Post $ alloc_all !
    (λ l. pass_all ! refl (handle_good d.mark fits (block_ptr b o), (h.2, tt)) $ let Ev = env fn.locals l in
    sets ! (of_opd ! (get_in ! (fld ! refl (stop !)) (sub ! 0 refl (whole !)))) refl (word-Good d.mark fits) $
    sets ! (of_opd ! (get_in ! (fld ! refl (stop !)) (sub ! 1 refl (whole !)))) refl (tt, tt) $
    sets ! (of_opd ! (get ! refl)) refl (word-Good d.mark fits) $
    sets ! (bin ! (get ! refl) (big_lit ! (record { fits = lit< tt })) tt) refl (tt, tt) $ first ! $
    branches ! (get ! refl) (λ _.
    first ! $ blocks ! $ sets ! (of_opd ! (get ! refl)) refl h.2 $ sets ! (of_opd ! (get ! refl)) refl (tt, tt) $
    sets ! (of_opd ! (get ! refl)) refl (tt, tt) $
    calls_at_last ! (fm 𝓛 𝓜 𝓡) k known y (and_then ! (get ! refl) (and_then ! (get ! refl) (no_more !))) (λ u.
    use1 𝓛 (later (some (λ (r : B.Denot). (toks ⊛ ‵ (B.own_val r (u ∷ []))) ⊛ some (λ (ls : Lasts
    (callee.ended R Z ghosts dict no_drop) ([], ([], tt)) y.0.3). ‵ (lasts (callee.ended R Z ghosts dict no_drop)
    ([], ([], tt)) y.0.3 ls) ⊛ (raw (fact 𝓤 (r.value ≡ x)) ⊛ raw (fact 𝓤 (r.alloc ≡ a))))))) (id⊢ 𝓤 (k.post y u)) $
    await ! tt $ pick ! (λ r. split ! $ move ! (1 ∷ []) $
    pick ! (λ _. split3 ! $ drop ! $ heard ! (r.value ≡ x) (λ same. drop ! $ split ! $ drop ! $
    peeks ! B (Is B) (shows 𝓛 B) r (u ∷ [])
    (λ i. let g = one (layout B) (u ∷ []) ((box_laws.lawful 𝓛).typed r (u ∷ []) i) in
    let good : Good (layout B) u = subst (Good (layout B)) (sym (ap only g.1)) g.2 in
    let v₁ : Val = live 1 (vcons u vnil) in
    let good₁ : Good (layout Out) v₁ = (and_tt _ good.0, (record { fits = lit< tt }, (good.1, tt))) in
    lands_last ! refl good $ exec ! 𝓣.C 𝓣.Λ Ev (seq (assign (place 8 []) (rv_opd (copy (place 9 []))))
    (assign (place 7 []) (aggregate (int w8 1 ∷ copy (place 8 []) ∷ []))))
    (any_q (after_seq 𝓤 H (Wp 𝓤 H 𝓣.C 𝓣.Λ Ev (after 5 fn.body) (at_return 𝓤 H Ev Post)) (at_return 𝓤 H Ev Post))) $
    sets ! (of_opd ! (get ! refl)) refl good $
    sets_last ! (agg ! (and_then ! (lit ! tt) (and_then ! (get ! refl) (no_more !)))) refl good₁ $
    exec ! 𝓣.C 𝓣.Λ Ev (after 5 fn.body) (at_ret Ev Post) $ sets ! (of_opd ! (get ! refl)) refl good₁ $
    use1 𝓛 (‵ (Out.own_val (Some r) (v₁ ∷ []))) (Some-of 𝓛 B r u) $
    use0 𝓛 (raw (fact 𝓤 (d.value ≡ Some r.value))) (fact_i 𝓤 (d.value ≡ Some r.value) (emp 𝓤)
    (ex ∙ ap Some (sym same))) $ nothing ! $ nothing ! $ fjoin ! $ nothing ! $ fjoin ! $
    returns ! (look_at ! 0 refl) $ free_all ! refl $ keep ! (3 ∷ 0 ∷ 2 ∷ 1 ∷ []) $
    by ! (leaves 𝓛 En hs c z v₁ (Some r) (tt, (tt, tt)) (tt, (tt, tt)))))))))
    (λ wrong. absurd (subst (λ (y : Bool). T (not y)) e1 wrong))))))
