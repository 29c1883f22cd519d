use Rattle.std.proofs.Common.{◌≡◌, ℕ, ◌<◌, ◌≤◌, Bool, false, IsTrue, ap, sym, ◌∙◌, ⊎_elim, arith}
use Rattle.std.proofs.lemmas.Bool.{false≢true, cases_lt}
use Rattle.std.proofs.lemmas.List.{nil_from_length}
use Rattle.draw_buffer.specs.Times.{times}
use Rattle.draw_buffer.specs.Exchange.{addresses_of}
use Rattle.draw_buffer.proofs.TimesLemmas.{times-none}
use Rattle.draw_buffer.proofs.buffer.settle_all.Goals as goal

-- none waits any more
nothing : (b : Bool) (m : ℕ) → (IsTrue b → 0 < m) × (0 < m → IsTrue b) → b ≡ false → m ≡ 0
nothing b m h off =
    ⊎_elim (λ (e : 0 < m). absurd (false≢true (sym off ∙ h.1 e))) (λ (e : m ≤ 0). omega arith) (cases_lt 0 m)

pub returns-clause-total : goal.returns-clause-total
returns-clause-total c a =
    let none = ap (λ ws. times (addresses_of ws) a)
    (nil_from_length c.loop-exchange.exchange.waiting
    (nothing _ _ c.is_waiting.ensures.value c.loop-exchange-test.false)) in
    let empty = times-none a in
    omega (arith, c.loop-exchange.invariant.total a)
