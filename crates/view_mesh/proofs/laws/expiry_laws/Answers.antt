use Rattle.std.proofs.Common.{sym, ◌∙◌}
use Rattle.std.proofs.lemmas.Option.{none-some}
use Rattle.view_mesh.proofs.SightLemmas.{stamped-address}
use Rattle.view_mesh.proofs.ExpiryLemmas.{IsExpired-stamped, OnlyEntriesStamped-expired, AreAllExpired-kept, AreAllExpired-each}
use Rattle.view_mesh.proofs.laws.expiry_laws.Goals as goal

pub returns : goal.returns
returns c = record {
  none = λ mesh bare. (
    λ a stamp there. absurd (none-some stamp (sym (bare a) ∙ there)),
    λ a stamp there. absurd (none-some stamp (sym (bare a) ∙ there)),
  );
  only = OnlyEntriesStamped-expired;
  each = AreAllExpired-each;
  all = AreAllExpired-kept;
  same = λ before after expired others only same is.
      IsExpired-stamped before after expired others
      (λ a stamp there. same a (stamped-address before a stamp only there)) is;
}
