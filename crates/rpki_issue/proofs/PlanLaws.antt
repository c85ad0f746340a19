-- What is to be signed of a certificate is read as the normal form, or why there is none.
use Rattle.std.proofs.Common.{◌≡◌, ℕ, List, true, sym, subst, ap, ◌∙◌}
use Rattle.rpki_cert.specs.declared.profile.Profile.{Profile}
use Rattle.rpki_cert.specs.Profile.{HasProfile}
use Rattle.rpki_cert.specs.Cert.{TbsParts, SpellsTbs, AreExtensions}
use Rattle.rpki_issue.specs.declared.error.IssueError.{IssueError}
use Rattle.rpki_issue.specs.declared.error.IssueError.TheVariants.{Uri, Period, Doubled, Resources, TooLong}
use Rattle.rpki_issue.specs.declared.error.IssueError.TheVariants.{Rule, ContentType, Certificate, BadSignature}
use Rattle.rpki_issue.specs.declared.error.IssueError.TheVariants.{OutOfMemory}
use Rattle.rpki_issue.specs.declared.kind.CertExtensions.{CertExtensions}
use Rattle.rpki_issue.specs.Extensions.{extensions_of, profile_of, AreUris}
use Rattle.rpki_issue.specs.Tbs.{Issued, tbs_octets, IsShortTbs, normal_tbs}
use Rattle.rpki_issue.specs.Refusal.{AreListed, IsListRefusal}
use Rattle.rpki_issue.specs.Written.{IsRead, IsWriteRefusal}
use Rattle.rpki_issue.specs.Signing.{ToSign, IsReadAs, IsToSign, IsProfileRefusal, IsPlanRefusal}
use Rattle.rpki_issue.proofs.PartsLaws.{all-read}

module _ (x : Issued) (e : CertExtensions) where
  pub plan-read : (listed octets : List ℕ) → AreUris e → AreListed e listed → octets ≡ tbs_octets x listed
      → IsRead x listed → SpellsTbs (normal_tbs x (extensions_of e)) octets
  plan-read listed octets uris l is read =
      let here = subst (λ (w : List ℕ). AreExtensions (extensions_of e) w) (sym l.list)
      (all-read e l.keys uris l.hold) in
      subst (λ (w : List ℕ). SpellsTbs (normal_tbs x (extensions_of e)) w) (sym is) (read (extensions_of e) here)

  pub plan-made : (listed octets : List ℕ) (profile : Profile) (made : ToSign) → AreListed e listed
      → octets ≡ tbs_octets x listed → profile ≡ profile_of e.kind
      → IsReadAs profile octets made (normal_tbs x (extensions_of e)) → IsToSign x e made
  plan-made listed octets profile made l is same h = record {
    octets = h.same ∙ is ∙ ap (λ (w : List ℕ). tbs_octets x w) l.list;
    tbs = h.tbs;
    has = subst (λ (t : TbsParts). HasProfile (profile_of e.kind) true t) (sym h.tbs)
        (subst (λ (p : Profile). HasProfile p true (normal_tbs x (extensions_of e))) same h.has);
  }

  pub list-refused : (w : IssueError) → IsListRefusal e w → IsPlanRefusal x e w
  list-refused Uri h = absurd h
  list-refused Period h = absurd h
  list-refused Doubled h = absurd h
  list-refused Resources h = h
  list-refused TooLong h = λ hold short. h hold
  list-refused (Rule r) h = absurd h
  list-refused ContentType h = h
  list-refused Certificate h = h
  list-refused BadSignature h = h
  list-refused OutOfMemory h = h

  pub octets-refused : (listed : List ℕ) (w : IssueError) → AreListed e listed → IsWriteRefusal x listed w
      → IsPlanRefusal x e w
  octets-refused listed Uri l h = absurd h
  octets-refused listed Period l h = absurd h
  octets-refused listed Doubled l h = absurd h
  octets-refused listed Resources l h = absurd h
  octets-refused listed TooLong l h = λ hold short. h (subst (λ (o : List ℕ). IsShortTbs x o) (sym l.list) short)
  octets-refused listed (Rule r) l h = absurd h
  octets-refused listed ContentType l h = h
  octets-refused listed Certificate l h = h
  octets-refused listed BadSignature l h = h
  octets-refused listed OutOfMemory l h = h

  pub profile-refused : (profile : Profile) (w : IssueError) → profile ≡ profile_of e.kind
      → IsProfileRefusal profile (normal_tbs x (extensions_of e)) w → IsPlanRefusal x e w
  profile-refused profile Uri same h = absurd h
  profile-refused profile Period same h = absurd h
  profile-refused profile Doubled same h = absurd h
  profile-refused profile Resources same h = absurd h
  profile-refused profile TooLong same h = absurd h
  profile-refused profile (Rule r) same h =
      subst (λ (p : Profile). IsProfileRefusal p (normal_tbs x (extensions_of e)) (Rule r)) same h
  profile-refused profile ContentType same h = h
  profile-refused profile Certificate same h = h
  profile-refused profile BadSignature same h = h
  profile-refused profile OutOfMemory same h = h
