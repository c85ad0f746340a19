-- URIs that readers accept.
use Rattle.std.proofs.Common.{◌≡◌, ◌<◌, ◌↔◌, ℕ, Bool, true, false, not, List, length, refl, sym, subst, IsTrue}
use Rattle.std.proofs.Common.{Option, Some, None, if◌then◌else◌, nat_lt}
use Rattle.std.specs.List.{list_all}
use Rattle.std.proofs.lemmas.Bool.{lt-ltb, ltb-true}
use Rattle.rpki_text.specs.declared.uri.error.Error.{Error}
use Rattle.rpki_text.specs.declared.uri.error.Error.TheVariants.{InvalidCharacters}
use Rattle.rpki_text.specs.UriText.{is_uri_byte}
use Rattle.rpki_text.specs.RsyncText.{IsRsync, rsync_refusal}
use Rattle.rpki_text.specs.HttpsText.{https_refusal}
use Rattle.rpki_text.proofs.CutLaws.{uri-bytes-ascii}
use Rattle.rpki_issue.specs.Contents.{CanPoint, CanTell}

pub can-point : (uri text : List ℕ) → text ≡ uri → IsRsync uri → (length uri < 3080 → rsync_refusal uri ≡ None)
    → IsTrue (nat_lt (length text) 3080) ↔ CanPoint uri
can-point uri text same form again = (
  λ t.
      let few : length uri < 3080 = subst (λ w. length w < 3080) same (ltb-true (length text) 3080 t) in
      record { legal = again few; ascii = uri-bytes-ascii uri form.characters; few = few },
  λ h. lt-ltb (length text) 3080 (subst (λ w. length w < 3080) (sym same) h.few),
)

bytes-of : (v : Bool) (a : Option Error) → (if not v then Some InvalidCharacters else a) ≡ None → v ≡ true
bytes-of true a h = refl
bytes-of false a h = absurd (cc)

https-bytes : (text : List ℕ) → https_refusal text ≡ None → list_all is_uri_byte text ≡ true
unfolding https_refusal
https-bytes text h = bytes-of (list_all is_uri_byte text) _ h

pub can-tell : (uri text : List ℕ) → text ≡ uri → https_refusal uri ≡ None
    → IsTrue (nat_lt (length text) 3080) ↔ CanTell uri
can-tell uri text same passes = (
  λ t. record {
    legal = passes;
    ascii = uri-bytes-ascii uri (https-bytes uri passes);
    few = subst (λ w. length w < 3080) same (ltb-true (length text) 3080 t);
  },
  λ h. lt-ltb (length text) 3080 (subst (λ w. length w < 3080) (sym same) h.few),
)
