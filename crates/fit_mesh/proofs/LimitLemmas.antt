-- Of each limit, the error of a finest triangle is none.
use Rattle.std.proofs.Common.{ℕ, List}
use Rattle.fit_laws.specs.Error.{IsExactAtFinest}
use Rattle.fit_laws.proofs.ErrorLemmas.{error-finest}
use Rattle.fit_laws.proofs.ExcessLemmas.{excess-finest}
use Rattle.fit_mesh.specs.declared.limit.Limit.{Limit}
use Rattle.fit_mesh.specs.declared.limit.Limit.TheVariants.{Common, Own}
use Rattle.fit_mesh.specs.Limit.{error_within}

-- a finest triangle holds its corners alone
pub limit-finest : (n : ℕ) (heights : List ℕ) (limit : Limit) → IsExactAtFinest n (error_within n heights limit)
limit-finest n heights (Common tolerance) = error-finest n heights
limit-finest n heights (Own tolerances) = excess-finest n heights tolerances.now
