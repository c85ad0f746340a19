-- Signed checklists (RFC 9323), trust anchor keys (RFC 9691) and Ghostbusters records (RFC 6493): signed objects of
-- their types, whose content is well.
use Rattle.std.specs.Prelude.{◌≡◌, ◌≢◌, ℕ, List, Ok, Err, codes}
use Rattle.rpki_der.specs.declared.error.DecodeError.{DecodeError}
use Rattle.rpki_der.specs.declared.error.DecodeError.TheVariants.{OutOfMemory}
use Rattle.rpki_der.specs.Error.{error_number}
use Rattle.rpki.specs.UnknownAlgorithm.{IsContentWith}
use Rattle.rpki_objects.specs.SignedObject.{ObjectParts}
use Rattle.rpki_records.specs.declared.card.CardPart.{CardPart}
use Rattle.rpki_records.specs.declared.checklist.ChecklistPart.{ChecklistPart}
use Rattle.rpki_records.specs.declared.resources.ResourceBlock.{ResourceBlock}
use Rattle.rpki_records.specs.declared.tak.TakPart.{TakPart}
use Rattle.rpki_records.specs.AnchorKeys.{FoundTak, tak}
use Rattle.rpki_records.specs.Card.{FoundCard, card_in}
use Rattle.rpki_records.specs.Checklist.{FoundChecklist, checklist}
use Rattle.rpki_records.specs.ChecklistEntries.{AreUnique, entries}
use Rattle.rpki_records.specs.ChecklistResources.{AreNoResources, AreResources}
use Rattle.rpki_records.specs.Identifiers.{anchor_keys_type, card_type, checklist_type}

-- the content has this type, and C says that it is well
pub record HasContent (wanted : List ℕ) (C : List ℕ → Type 0) (o : ObjectParts) : Type 0 where
  pub type : o.content.content_type ≡ wanted
  pub content : C o.content.content

-- the content has another type; or W says this error of it
pub data HasNoContent (wanted : List ℕ) (W : List ℕ → DecodeError → Type 0) (o : ObjectParts) (e : DecodeError)
    : Type 0 where
  OtherType : o.content.content_type ≢ wanted → IsContentWith (codes "another content type") e
      → HasNoContent wanted W o e
  OtherContent : W o.content.content e → HasNoContent wanted W o e

-- ---- checklists

-- what is found of a checklist has resources, and its files differ
pub record IsSound (x : FoundChecklist) : Type 0 where
  pub block : ResourceBlock
  pub resources : AreResources x block
  pub unique : AreUnique (entries x.count x.files)

-- its resources aren't there; its files don't differ; or allocation failed
pub data IsNoSound (x : FoundChecklist) (e : DecodeError) : Type 0 where
  OtherResources : AreNoResources x → IsNoSound x e
  Repeated : (AreUnique (entries x.count x.files) → ⊥) → IsContentWith (codes "file listed twice") e → IsNoSound x e
  Lacking : e ≡ OutOfMemory → IsNoSound x e

-- all of c is a checklist
abbrev pub IsChecklist : List ℕ → Type 0
IsChecklist c = (x : FoundChecklist) × (checklist c ≡ Ok x) × IsSound x

-- none, with the error of the leftmost malformed part, or of what is found of one
pub data IsNoChecklist (c : List ℕ) (e : DecodeError) : Type 0 where
  Malformed : (p : ChecklistPart) → checklist c ≡ Err (p, error_number e) → IsNoChecklist c e
  Unsound : (x : FoundChecklist) → checklist c ≡ Ok x → IsNoSound x e → IsNoChecklist c e

abbrev pub IsChecklistObject : ObjectParts → Type 0
IsChecklistObject = HasContent checklist_type IsChecklist

abbrev pub IsChecklistFault : ObjectParts → DecodeError → Type 0
IsChecklistFault = HasNoContent checklist_type IsNoChecklist

-- ---- trust anchor keys

abbrev pub AreAnchorKeys : List ℕ → Type 0
AreAnchorKeys c = (x : FoundTak) × (tak c ≡ Ok x)

abbrev pub AreNoAnchorKeys : List ℕ → DecodeError → Type 0
AreNoAnchorKeys c e = (p : TakPart) × (tak c ≡ Err (p, error_number e))

abbrev pub IsAnchorKeysObject : ObjectParts → Type 0
IsAnchorKeysObject = HasContent anchor_keys_type AreAnchorKeys

abbrev pub IsAnchorKeysFault : ObjectParts → DecodeError → Type 0
IsAnchorKeysFault = HasNoContent anchor_keys_type AreNoAnchorKeys

-- ---- Ghostbusters records

abbrev pub IsCard : List ℕ → Type 0
IsCard c = (x : FoundCard) × (card_in c ≡ Ok x)

abbrev pub IsNoCard : List ℕ → DecodeError → Type 0
IsNoCard c e = (p : CardPart) × (card_in c ≡ Err (p, error_number e))

abbrev pub IsCardObject : ObjectParts → Type 0
IsCardObject = HasContent card_type IsCard

abbrev pub IsCardFault : ObjectParts → DecodeError → Type 0
IsCardFault = HasNoContent card_type IsNoCard
