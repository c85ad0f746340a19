-- What is signed of a revocation list, read in place.
use Rattle.std.proofs.Common.{◌≢◌, ℕ, Bool, true, false, List, Option, None, Some, Result, Ok, Err, refl, subst}
use Rattle.std.proofs.Common.{inl, inr}
use Rattle.std.specs.Prelude.{IfOk, IfErr}
use Rattle.jiff.specs.Types.{DateTime}
use Rattle.rpki_der.specs.declared.error.DecodeError.{DecodeError}
use Rattle.rpki_der.specs.declared.error.DecodeError.TheVariants.{OutOfMemory}
use Rattle.rpki_der.specs.TagName.{integer, sequence}
use Rattle.rpki_der.specs.Reading.{Accepts, Refuses, Refusal, SpellsNothing}
use Rattle.rpki_der.specs.Values.{SpellsContents, HasTag}
use Rattle.rpki_der.specs.Integer.{IsNumber}
use Rattle.rpki_der.specs.Parts.{OptionalThen}
use Rattle.rpki_der.specs.Format.{only, in_place}
use Rattle.rpki_der.specs.LeafFormats.{this_number}
use Rattle.rpki_der.proofs.LeavesLaws.{leaf-no-memory}
use Rattle.rpki_der.proofs.InsideLaws.{unless-memory, no-memory}
use Rattle.rpki_time.specs.TimeValue.{time}
use Rattle.rpki.specs.Name.{SpellsNameOctets}
use Rattle.rpki.specs.NameValue.{HasNameValue}
use Rattle.rpki.specs.NameFault.{borrowed_name, name}
use Rattle.rpki.proofs.NameFaultLaws.{name-never}
use Rattle.rpki_der.specs.declared.section.Section.{Section}
use Rattle.rpki_der.specs.Section.{IsSection}
use Rattle.rpki_crl.specs.declared.crl_part.CrlPart.{CrlPart}
use Rattle.rpki_crl.specs.declared.list_view.TbsCertListView.{TbsCertListView}
use Rattle.rpki_crl.specs.Crl.{Entry, entries, ListExtensions, extensions_of, extensions, ListParts, fields_of}
use Rattle.rpki_crl.specs.Crl.{signature, fields, tbs_cert_list}
use Rattle.rpki_crl.specs.CrlView.{CrlError, crl_error, TakesRevoked, AreExtensionsFault, IsListAt}
use Rattle.rpki_crl.specs.CrlView.{entries_in_front, after_entries, AreFieldsWrong, AreListedWrong, IsTbsWrong}
use Rattle.rpki_crl.specs.CrlView.FirstWrong.{AtPart, Later}
use Rattle.rpki_crl.specs.CrlView.IsTbsWrong.{InTbs}

-- ---- readers that take no memory

refused : {V : Type 0} (G : V → List ℕ → Type 0) (K : List ℕ → DecodeError → Type 0) (s r : List ℕ) (e : DecodeError)
    → (K s OutOfMemory → ⊥) → Refusal G K s r e → Refuses G s
refused G K s r e never h = unless-memory e (λ z. never (subst (K s) z h.kind)) h.refuses

pub version-refused : (s r : List ℕ) (e : DecodeError)
    → Refusal (this_number 1).spells (this_number 1).fault s r e → Refuses (this_number 1).spells s
version-refused s r e =
    refused (this_number 1).spells (this_number 1).fault s r e
    (λ m. leaf-no-memory integer false (IsNumber 1) s OutOfMemory m refl)

pub time-refused : (s r : List ℕ) (e : DecodeError) → Refusal time.spells time.fault s r e → Refuses time.spells s
time-refused s r e = refused time.spells time.fault s r e (λ m. m)

-- the error of a name that isn't kept
pub name-kind : (s : List ℕ) (e : DecodeError) → borrowed_name.fault s e → (in_place name).fault s e
name-kind s e k =
    let other : e ≢ OutOfMemory = λ z. name-never s (subst (borrowed_name.fault s) z k) in
    record { other = other; kind = no-memory HasNameValue borrowed_name.fault s e other k }

-- ---- a list that may be left out, and what follows it

-- what the section is of, with what follows it
pub record Listed (s : List ℕ) (p : Section) (v : ListExtensions) : Type 0 where
  pub revoked : Option (List Entry)
  pub spelled : OptionalThen entries.spells (only extensions).spells (revoked, v) s
  pub section : IsSection p (entries_in_front revoked v s spelled) (after_entries revoked v s spelled)

pub listed : (s r : List ℕ) (p : Section) (v : ListExtensions) → TakesRevoked s r (Ok p) → extensions.spells v r
    → Listed s p v
listed s r p v (inl h) k = record {
  revoked = Some h.1;
  spelled = record {
    first = h.2.front;
    second = r;
    parts = h.2.parts;
    one = h.2.spelled;
    two = k;
  };
  section = h.3;
}
listed s r p v (inr h) k = record {
  revoked = None;
  spelled = subst (extensions.spells v) h.1 k;
  section = h.2;
}

-- ---- the fields

abbrev parts_of : Bool → List ℕ → DateTime → DateTime → Option (List Entry) → ListExtensions → ListParts
parts_of algorithm issuer this next revoked extensions = record {
  algorithm = algorithm;
  issuer = issuer;
  this_update = this;
  next_update = next;
  revoked = revoked;
  extensions = extensions;
}

-- these fields are all of s, and the sections are theirs
abbrev pub IsFieldsAt : List ℕ → TbsCertListView → Type 0
IsFieldsAt s f = (t : ListParts) × (h : fields.spells (fields_of t) s) × IsListAt t s h f

pub fields-read : (s v w x y z : List ℕ) (f : TbsCertListView) (i : List ℕ) → Accepts (this_number 1).spells s tt v
    → Accepts signature.spells v f.signature w → Accepts SpellsNameOctets w i x → IsSection f.issuer i x
    → Accepts time.spells x f.this_update y → Accepts time.spells y f.next_update z
    → Listed z f.revoked_certs (extensions_of f.extensions) → IsFieldsAt s f
fields-read s v w x y z f i version algorithm issuer at this next l = (
  parts_of f.signature i f.this_update f.next_update l.revoked (extensions_of f.extensions),
  record {
    first = version.spells.front;
    second = v;
    parts = version.spells.parts;
    one = version.spells.spelled;
    two = record {
      first = algorithm.spells.front;
      second = w;
      parts = algorithm.spells.parts;
      one = algorithm.spells.spelled;
      two = record {
        first = issuer.spells.front;
        second = x;
        parts = issuer.spells.parts;
        one = issuer.spells.spelled;
        two = record {
          first = this.spells.front;
          second = y;
          parts = this.spells.parts;
          one = this.spells.spelled;
          two = record {
            first = next.spells.front;
            second = z;
            parts = next.spells.parts;
            one = next.spells.spelled;
            two = l.spelled;
          };
        };
      };
    };
  },
  record {
    algorithm = refl;
    issuer = at;
    this_update = refl;
    next_update = refl;
    revoked = l.section;
    extensions = refl;
  },
)

-- what follows the times is no list of entries and extensions
pub extensions-wrong : (s r : List ℕ) (p : Section) (e : DecodeError) → TakesRevoked s r (Ok p)
    → SpellsNothing extensions.spells r × AreExtensionsFault r e → AreListedWrong s (crl_error CrlPart.Extensions e)
extensions-wrong s r p e (inl h) k = inr (h.0, Later h.1 r h.2 (k.0, k.1, refl))
extensions-wrong s r p e (inr h) k = inl (
  h.0,
  (
    subst (SpellsNothing extensions.spells) h.1 k.0,
    subst (λ (q : List ℕ). AreExtensionsFault q e) h.1 k.1,
    refl,
  ),
)

pub revoked-wrong : (s : List ℕ) (e : DecodeError)
    → HasTag sequence s × Refuses entries.spells s × (in_place entries).fault s e
    → AreListedWrong s (crl_error CrlPart.RevokedCerts e)
revoked-wrong s e h = inr (h.0, AtPart h.1 h.2 refl)

-- ---- TBSCertList

-- all of s is a TBSCertList, and the sections are those of its fields
abbrev pub IsTbsAt : List ℕ → TbsCertListView → Type 0
IsTbsAt s f = (t : ListParts) × (h : tbs_cert_list.spells (fields_of t) s) × IsListAt t h.contents h.spelled f

-- the reader of the fields, whose result is handed on
pub tbs-handed : (s c : List ℕ) (x : Result TbsCertListView CrlError) → SpellsContents sequence true c s
    → IfOk x (IsFieldsAt c) → IfOk x (IsTbsAt s)
tbs-handed s c (Ok f) h k = (k.0, record { contents = c; value = h; spelled = k.1 }, k.2)
tbs-handed s c (Err q) h k = k

pub tbs-handed-wrong : (s c : List ℕ) (x : Result TbsCertListView CrlError) → SpellsContents sequence true c s
    → IfErr x (λ q. AreFieldsWrong c q) → IfErr x (λ q. IsTbsWrong s q)
tbs-handed-wrong s c (Ok f) h k = k
tbs-handed-wrong s c (Err q) h k = InTbs c h k
