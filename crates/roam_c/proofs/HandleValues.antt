-- The machine values of a `Handle`. Assumes `Logic`.
use Rattle.std.proofs.Common.{◌≡◌, ℕ, ◌^◌, ◌<◌, List, [], ◌∷◌, ◌++◌, refl, subst, w64}
use mathlib.Core.Bool.{Bool, true, false}
use seplogic.Ra.Ura.{Ura}
use mir.Raw.{raw as bare}
use lib.Dec.{T}
use mir.Syntax.{Width, ty_int, int_big}
use mir.Val.{Val, vint, vstruct, vcons, vnil, of_list, has_ty, WT, Fits}
use base.Logic.{never, never_e, fst∗, via, id⊢, guard_i}
use base.Fml.{ftrue}
use types.Logic.{Logic, sem}
use types.Run.{Opd}
use prog.Wp.{Env}
use types.Kit.{Item, Goal, Seq, Step, step, ‵, ◌$◌, given, learn, drop, fsplit, fjoin, fpack, fpick, feq_i, feq_l}
use types.Kit.{flt_i, flt_l, use1}
use denote.RattleType.{Valss}
use denote.Builtin.{RawPtr, u64}
use denote.Memory.{lone}
use denote.RawPtr.{Ptr, block_ptr, null_ptr, ptr_val, in_a_block}
use denote.Steps.{nothing}
use denote.Param.{layout}
use denote.Struct.Struct.{within}
use denote.Struct.Owning.{shape}
use Rattle.core.proofs.atomic.Steps.{Ptr-Good}
use Rattle.core.proofs.cell.Inside.{Good}
use Rattle.std.specs.declared.option.Option.{Option}
use Rattle.std.specs.declared.option.Option.TheVariants.{None, Some}
use Rattle.roam_c.specs.declared.kept.Kept.{Kept}
use Rattle.roam_c.specs.Held.{token, held, is_mark, held_if}
use Rattle.roam_c.specs.contracts.handle.Handle as handle
use Rattle.roam_c.specs.contracts.kept.Kept as kept

abbrev pub two : Val → Val → Val
two u v = vstruct (vcons u (vcons v vnil))

-- a number of 64 bits
abbrev pub IsWord : ℕ → Type 0
IsWord m = m < 2 ^ 64

pub word-Good : (m : ℕ) → IsWord m → T (has_ty (ty_int w64) (vint w64 m)) × WT (vint w64 m)
word-Good m fits = (tt, record { fits = fits })

pub handle_good : (m : ℕ) → IsWord m → (p : Ptr) → Good (layout handle.the_row) (two (vint w64 m) (ptr_val p))
handle_good m fits (block_ptr b o) = (tt, (record { fits = fits }, (tt, tt)))
handle_good m fits null_ptr = (tt, (record { fits = fits }, ((Ptr-Good null_ptr).1, tt)))

-- a constant of more than three digits
pub big_lit : {M : Type 1} {𝓤 : Ura M} {𝓛 : Logic 𝓤} {K : Type 0} {Γ : List (Item 𝓤)} → K →
    {E : Env 𝓤 𝓛.H} {w : Width} {n : ℕ} → Fits w n → Opd K 𝓛 Γ E (int_big w n) (vint w n)
big_lit {𝓤 = 𝓤} t {w = w} {n = n} fits = record {
  go = λ Kt h. via 𝓤 (Kt (vint w n)) h (guard_i 𝓤 (Fits w n) (Kt (vint w n)) fits);
}

module _ {M : Type 1} {𝓤 : Ura M} {𝓛 : Logic 𝓤} {K : Type 0} {Γ : List (Item 𝓤)} {G : Goal 𝓤 𝓛.H} where
  pub handle_in : K → (m : ℕ) → IsWord m → (p : Ptr) (k : Option Kept)
      → Step K 𝓛 (‵ ((handle.the_row).own_val (record { mark = m; at = p; value = k })
      (two (vint w64 m) (ptr_val p) ∷ [])) ∷ Γ) G (‵ (held_if (is_mark m) p k) ∷ Γ) G
  handle_in t m fits p k = step (λ s. let v : Val = two (vint w64 m) (ptr_val p) in
      nothing t $ feq_i t (List Val) (ptr_val p ∷ []) (ptr_val p ∷ []) refl $ fjoin t $
      flt_i t m (2 ^ 64) fits $ feq_i t (List Val) (vint w64 m ∷ []) (vint w64 m ∷ []) refl $ fjoin t $ fjoin t $
      feq_i t (List Val) (v ∷ []) (v ∷ []) refl $ fjoin t $
      fpack t (Valss (u64 ∷ RawPtr ∷ [])) (within (shape handle.the_type) (m, (p, tt)) (v ∷ []))
      (vint w64 m ∷ [], (ptr_val p ∷ [], tt)) $ fjoin t $ s)

  pub handle_out : K → (d : (handle.the_row).Denot) (vs : List Val)
      → (IsWord d.mark → vs ≡ two (vint w64 d.mark) (ptr_val d.at) ∷ [] →
      Seq K 𝓛 (‵ (held_if (is_mark d.mark) d.at d.value) ∷ Γ) G)
      → Seq K 𝓛 (‵ ((handle.the_row).own_val d vs) ∷ Γ) G
  handle_out t d vs k =
      fsplit t $ fpick t (λ vss. fsplit t $
      feq_l t (λ ev. fsplit t $ fsplit t $ feq_l t (λ ef. flt_l t (λ fits. fsplit t $ feq_l t (λ ep. drop t $ k fits
      (subst (λ (ps : List Val). vs ≡ vstruct (of_list (vint w64 d.mark ∷ (ps ++ []))) ∷ []) ep
      (subst (λ (fs : List Val). vs ≡ vstruct (of_list (fs ++ (vss.1.0 ++ []))) ∷ []) ef ev)))))))

  -- an empty handle owns nothing, and a full one what it keeps
  pub either_held : K → (f : Bool) (p : Ptr) (k : Option Kept) → (f ≡ false → k ≡ None → Seq K 𝓛 Γ G)
      → ((b o : ℕ) (x : Kept) → f ≡ true → k ≡ Some x → p ≡ block_ptr b o →
      Seq K 𝓛 (‵ (held (block_ptr b o) x) ∷ Γ) G) → Seq K 𝓛 (‵ (held_if f p k) ∷ Γ) G
  either_held t true p None none one =
      use1 𝓛 (given ⊥ (‵ ftrue)) (via 𝓤 (never 𝓤) (id⊢ 𝓤 (never 𝓤)) (never_e 𝓤 _)) $ learn t (λ z. absurd z)
  either_held t false p (Some x) none one =
      use1 𝓛 (given ⊥ (‵ ftrue)) (via 𝓤 (never 𝓤) (id⊢ 𝓤 (never 𝓤)) (never_e 𝓤 _)) $ learn t (λ z. absurd z)
  either_held t false p None none one = drop t $ none refl refl
  either_held t true p (Some x) none one =
      in_a_block t p (λ q. held q x) (fst∗ 𝓤 (never 𝓤) (sem 𝓛 (token (bare (lone (kept.the_row).mir)) null_ptr)))
      (λ b o e. one b o x refl refl e)
