-- The extensions that are asked for.
use Rattle.std.proofs.Common.{◌≡◌, ◌∙◌, ◌+◌, List, Option, Some, sym, ap, subst, true, false, length}
use Rattle.rpki.specs.ExtensionValue.{ExtensionParts}
use Rattle.rpki_cert.specs.declared.extension.key_usage.KeyUsage.{KeyUsage}
use Rattle.rpki_cert.specs.ExtensionContent.{SpellsConstraints}
use Rattle.rpki_cert.specs.Known.{HasExtension, basic_constraints, subject_info_access}
use Rattle.rpki_request.specs.Request.{RepositoryParts, SpellsRepository, AskedParts, AreAsked, HasUsage, one_more}

abbrev IsAt : List ExtensionParts → RepositoryParts → Type 0
IsAt xs r = HasExtension subject_info_access false SpellsRepository xs (Some r)

-- what was found of each is what is asked for, and nothing else is
pub asked-stands : (xs : List ExtensionParts) (u : Option KeyUsage) (r : RepositoryParts) (x : AskedParts) → x.usage ≡ u
    → x.repository ≡ r → HasExtension basic_constraints true SpellsConstraints xs (Some tt)
    → HasUsage u xs × ((w : Option KeyUsage) → HasUsage w xs → w ≡ u)
    → IsAt xs r × ((w : RepositoryParts) → IsAt xs w → w ≡ r) → length xs ≡ 2 + one_more u
    → AreAsked x xs × ((v : AskedParts) → AreAsked v xs → v ≡ x)
asked-stands xs u r x e f constraints used at count = (
  record {
    constraints = constraints;
    usage = subst (λ (w : Option KeyUsage). HasUsage w xs) (sym e) used.0;
    access = subst (λ (w : RepositoryParts). IsAt xs w) (sym f) at.0;
    count = count ∙ ap (λ (w : Option KeyUsage). 2 + one_more w) (sym e);
  },
  λ v h.
      let usage = used.1 v.usage h.usage ∙ sym e in
      let repository = at.1 v.repository h.access ∙ sym f in
      λ i. record { usage = usage i; repository = repository i },
)
