-- What a call of a `Box` function at `Kept` and `Global` is given. Assumes `Logic`.
use Rattle.std.proofs.Common.{[], ◌∷◌, refl}
use seplogic.Ra.Ura.{Ura}
use mir.Syntax.{Dict, impl, method, tnil, tcons, dnil}
use types.Logic.{Logic}
use prog.Model.{Model}
use prog.Wired.{Wired}
use contract.Running.{Running}
use denote.RattleType.{RattleType}
use denote.Exit.{no}
use denote.Param.{layout, layouts, arg}
use denote.Param.Laws.{Laws, arg_laws}
use mir.Raw.{raw as bare}
use denote.Param.Glue.{Met}
use denote.Triple.Carry.{AllWithin}
use denote.Triple.Clauses.{Lasts, lasts, at_exit}
use denote.Triple.Walked.{Fit}
use borrow.Fn.Glue.{glue_by, glue_ps}
use borrow.Fn.Impl.{via_longer, method_Known}
use borrow.Fn.Kinds.{ended_of, stays, r_unit}
use borrow.Fn.Run.{Over}
use Rattle.std.specs.contracts.alloc.Global as heap
use Rattle.std.proofs.alloc.Global.TheLaws as heap_laws
use Rattle.std.specs.contracts.impls.GlobalAllocator.TheImpl.{ghosts}
use Rattle.std_alloc.specs.contracts.boxed.Box as boxed
use Rattle.std_alloc.proofs.boxed.Box.TheLaws as boxed_laws
use Rattle.roam_c.specs.contracts.kept.Kept as kept
use Rattle.roam_c.proofs.kept.Kept.TheLaws as kept_laws
use Rattle.roam_c.proofs.roam_c++kept++Kept+Destruct.drop.Kinds as kinds
use Rattle.roam_c.proofs.roam_c++kept++Kept+Destruct.drop.Met as dropped
use Rattle.roam_c.proofs.roam_c++kept++Kept+Destruct.drop.Reads as reads
use Rattle.roam_c.proofs.roam_c++kept++Kept+Destruct.drop.Symbol as symbol
use Rattle.roam_c.proofs.Destruct++none.drop.Symbol as none

-- a kept value and a `Global`, as a call's type arguments
abbrev pub R : RattleType
R = arg (bare (layout kept.the_row)) no kept.the_row

abbrev pub L : Laws R
L = arg_laws (bare (layout kept.the_row)) no kept.the_row kept_laws.the_row_laws refl

abbrev pub Z : RattleType
Z = arg (bare (layout heap.the_row)) no heap.the_row

abbrev pub LZ : Laws Z
LZ = arg_laws (bare (layout heap.the_row)) no heap.the_row heap_laws.the_row_laws refl

-- how a kept value is dropped, and how a `Global` is
abbrev pub drops : Dict
drops = impl (symbol.symbol ∷ []) tnil dnil

abbrev pub no_drop : Dict
no_drop = impl (none.symbol ∷ []) (tcons (layout Z) tnil) dnil

-- a box of them
abbrev pub box_laws : Laws (boxed.the_row kept.the_row heap.the_row ghosts)
box_laws = boxed_laws.the_row_laws kept.the_row heap.the_row ghosts kept_laws.the_row_laws heap_laws.the_row_laws

-- the `drop` of what is kept is what a type parameter's has to be
pub glue : {M : Type 1} (𝓤 : Ura M) (𝓛 : Logic 𝓤) (𝓜 : Model 𝓤 𝓛.H) (𝓡 : Running 𝓤 𝓛.H 𝓜) →
    Wired 𝓡.env symbol.code → Met 𝓛 𝓜 𝓡 𝓡.env R drops
glue {M = M} 𝓤 𝓛 𝓜 𝓡 w =
    let it = method drops 0 (layouts [] tt) in
    glue_by R L (record { M = M; 𝓤 = 𝓤; 𝓛 = 𝓛; 𝓜 = 𝓜; 𝓡 = 𝓡 }) drops 𝓡.env
    (λ κs a. Lasts (ended_of 0 kinds.ps kinds.r) tt a) (λ κs a. lasts (ended_of 0 kinds.ps kinds.r) tt a)
    (λ κs a x ws. Fit (ended_of 0 kinds.ps kinds.r) (stays kinds.ps) tt a ws
    × reads.Learnt tt a x (at_exit (ended_of 0 kinds.ps kinds.r) tt a ws))
    (λ κs a. AllWithin 1 (κs.0, tt) (R.lives, tt) × Unit {0}) 0 tt (λ κs a h. ((h, tt), tt))
    (via_longer 𝓛 (Over 𝓛 𝓜 𝓡 𝓡.env) 1 (glue_ps R L) r_unit
    (λ κs a. Lasts (ended_of 0 kinds.ps kinds.r) tt a) (λ κs a. lasts (ended_of 0 kinds.ps kinds.r) tt a)
    (λ κs a x ws. Fit (ended_of 0 kinds.ps kinds.r) (stays kinds.ps) tt a ws
    × reads.Learnt tt a x (at_exit (ended_of 0 kinds.ps kinds.r) tt a ws))
    (λ κs a. AllWithin 1 (κs.0, tt) (R.lives, tt) × Unit {0}) it 0 tt (λ κs. tt)
    (λ κs a. reads.Asked tt a) (λ κs a p. (tt, tt))
    (λ κs bd within a vss qs. method_Known 0 kinds.ps kinds.r reads.requires reads.ensures reads.Asked
    reads.Learnt reads.known
    (record { M = M; 𝓤 = 𝓤; 𝓛 = 𝓛; 𝓜 = 𝓜; 𝓡 = 𝓡 }) symbol.name it (symbol.as_method 𝓡.env w it refl)
    (dropped.met 𝓤 𝓛 𝓜 𝓡 w) ((tt, qs, tt, a, vss), tt)))
