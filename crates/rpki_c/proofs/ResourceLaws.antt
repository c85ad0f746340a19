-- Blocks that are written in sequence, and resources that are read, counted and settled.
use Rattle.std.proofs.Common.{◌≡◌, ◌≤◌, ◌<◌, ◌+◌, ℕ, suc, List, [], ◌∷◌, ◌++◌, length, take, drop, Some, None, refl}
use Rattle.std.proofs.Common.{sym, ap, ◌∙◌, arith, append_assoc, length-set, take-suc-set}
use Rattle.std.proofs.Common.{drop-set-lt, drop-drop, inl, inr, Option, subst, length-append, true, false, ◌≢◌, ◌⊎◌}
use Rattle.std.proofs.Common.{◌^◌}
use Rattle.std.specs.Prelude.{set, map, All}
use Rattle.std.proofs.lemmas.List.{length-map, set_split}
use Rattle.rpki_resources.specs.declared.block.Block.{Block}
use Rattle.rpki_resources.specs.InPlace.{Rest, IsLeft, Gives, Holds, Octets}
use Rattle.rpki_c.specs.Resources.{IsFilledAt, choice_entries, view_count, family_entries, ip_entries, as_entries}
use Rattle.rpki_c.specs.Resources.{IsIpFilled, IsAsFilled, ip_entry, as_entry, inherited_ip, inherited_as}
use Rattle.rpki_der.specs.TagName.{null, sequence}
use Rattle.rpki_der.specs.Leaves.{IsNull}
use Rattle.rpki_der.specs.Values.{SpellsLeaf}
use Rattle.rpki_der.proofs.EncodeLaws.{tlv-at-least}
use Rattle.rpki_der.proofs.EachLaws.{leaf-some}
use Rattle.rpki_resources.specs.declared.family.AddressFamily.{AddressFamily}
use Rattle.rpki_resources.specs.declared.family.AddressFamily.TheVariants.{Ipv4, Ipv6}
use Rattle.rpki_resources.specs.declared.kind.ResourceKind.{ResourceKind}
use Rattle.rpki_resources.specs.declared.kind.ResourceKind.TheVariants.{Addresses, AsNumbers}
use Rattle.rpki_resources.specs.declared.choice.ResourcesChoice.{ResourcesChoice}
use Rattle.rpki_resources.specs.declared.choice.ResourcesChoice.TheVariants.{Missing, Inherit, Blocks}
use Rattle.rpki_resources.specs.declared.choice_view.ChoiceView.{ChoiceView}
use Rattle.rpki_resources.specs.declared.ip_view.IpResourcesView.{IpResourcesView}
use Rattle.rpki_resources.specs.declared.resources.IpResources.{IpResources}
use Rattle.rpki_resources.specs.Listed.{SpellsNext, SpellsFollowing}
use Rattle.rpki_resources.specs.Encoded.{AreBlocksOf}
use Rattle.rpki_resources.specs.Settled.{IsAnchored}
use Rattle.rpki_resources.specs.Extension.{SpellsChoice, SpellsNamed, AreFamilies, SpellsIpResources, SpellsAsResources}
use Rattle.rpki_resources.specs.Extension.AreFamilies.{OnlyV4, OnlyV6, BothFamilies}
use Rattle.rpki_resources.specs.Kept.{IsChoiceOf, AreIpResourcesOf, SpellsIp, SpellsAs}
use Rattle.rpki_resources.proofs.FollowLaws.{block-some, blocks-following}
use Rattle.rpki_resources.proofs.KeptLaws.{ip_of, as_of}
use Rattle.rpki_resources.proofs.WritableLaws.{as-writable}
use Rattle.std.proofs.Math.Seq.{take-append_seam, drop-append_seam}
use Rattle.rpki_resources.specs.declared.resources.AsResources.{AsResources}
use Rattle.rpki_c.specs.declared.ip_blocks.IpEntry.{IpEntry}
use Rattle.rpki_c.specs.declared.as_blocks.AsEntry.{AsEntry}
use Rattle.rpki_c.specs.Filled.{AreFilled}
use Rattle.rpki_resources.specs.declared.settlement.SettleError.{SettleError}
use Rattle.rpki_resources.specs.Blocks.{IsAmong, AreCanonical}
use Rattle.rpki_cert.specs.declared.extension.policy.Overclaim.{Overclaim}
use Rattle.rpki_cert.specs.declared.extension.policy.Overclaim.TheVariants.{Refuse, Trim}
use Rattle.rpki_c.specs.Settling.{IsSettledBy, AreFitting, claimed_addresses, claimed_numbers}
use Rattle.rpki.specs.ExtensionValue.{ExtensionParts}
use Rattle.rpki_cert.specs.Known.{Says}

-- ---- Blocks that a cursor gives, and entries that are written of them in sequence

-- ---- what a cursor gave

pub gives-some : (ds : List Block) (b : Block) (after : Rest) → Gives ds (Some b) after
    → (es : List Block) × (ds ≡ b ∷ es) × IsLeft after es
gives-some [] b after g = let no : Some b ≡ None = g.0 in absurd (cc)
gives-some (d ∷ ds) b after g =
    let same : Some b ≡ Some d = g.0 in
    let one : b ≡ d = cc in
    (ds, ap (λ (y : Block). y ∷ ds) (sym one), g.1)

-- ---- entries that are written from a place on

-- What was written so far of the entries of bs: those of ds are still to come, from this number on.
pub record IsFilling {E : Type 0} (p : Block → E) (from : ℕ) (bs : List Block) (old new : List E) (number : ℕ)
    (ds : List Block) : Type 0 where
  pub front : take number new ++ map p ds ≡ take from old ++ map p bs
  pub behind : drop number new ≡ drop number old
  pub count : number + length ds ≡ from + length bs
  pub size : length new ≡ length old
  pub room : from + length bs ≤ length old

module _ {E : Type 0} {p : Block → E} {from : ℕ} {bs : List Block} {old new : List E} {number : ℕ} {ds : List Block}
  where
    pub filling-within : {b : Block} {es : List Block} → ds ≡ b ∷ es → IsFilling p from bs old new number ds
        → number < length new
    filling-within is h = omega (arith, ap length is, h.count, h.size, h.room)

    -- one entry more
    pub filling-next : {b : Block} {es : List Block} {e : E} → e ≡ p b → ds ≡ b ∷ es
        → IsFilling p from bs old new number ds → IsFilling p from bs old (set new number e) (number + 1) es
    filling-next {b} {es} {e} made is h =
        let more : number + 1 ≡ suc number = omega arith in
        let behind : drop (suc number) (set new number (p b)) ≡ drop (suc number) old =
        drop-set-lt (suc number) new number (p b) (omega arith)
        ∙ ap (λ (k : ℕ). drop k new) (sym more) ∙ sym (drop-drop 1 number new)
        ∙ ap (drop 1) h.behind ∙ drop-drop 1 number old
        ∙ ap (λ (k : ℕ). drop k old) more in
        rw (made, more) (record {
          front = ap (λ (l : List E). l ++ map p es) (take-suc-set new number (p b) (filling-within is h))
              ∙ append_assoc (take number new) (p b ∷ []) (map p es)
              ∙ ap (λ (l : List Block). take number new ++ map p l) (sym is) ∙ h.front;
          behind = behind;
          count = omega (arith, h.count, ap length is);
          size = length-set new number (p b) ∙ h.size;
          room = h.room;
        })

-- ---- How many entries resources in place have, and that there are resources that say the same

-- ---- as many entries as are counted

module _ {E : Type 0} (one : E) (p : Block → E) where
  pub choice-count : (v : ResourcesChoice) (x : ChoiceView) → IsChoiceOf v x
      → length (choice_entries one p v) ≡ view_count x
  choice-count Missing ChoiceView.Missing h = refl
  choice-count Inherit ChoiceView.Inherit h = refl
  choice-count (Blocks bs) (ChoiceView.Blocks x) h = length-map bs p ∙ h.count
  choice-count v x h = absurd h

  -- one entry says whose resources are
  pub inherited-entries : (v : ResourcesChoice) → IsChoiceOf v ChoiceView.Inherit → choice_entries one p v ≡ one ∷ []
  inherited-entries Inherit h = refl
  inherited-entries v h = absurd h

-- ---- resources that say the same, and that there are no more entries than octets

few-blocks : (kind : ResourceKind) (last : Option ℕ) (bs : List Block) (c : List ℕ) → SpellsFollowing kind last bs c
    → length bs ≤ length c
few-blocks kind last [] c h = omega arith
few-blocks kind last (b ∷ bs) c h =
    let rest = few-blocks kind (Some b.high) bs h.0 h.2 in
    let some = some-front h.1.front h.1.spelled in
    omega (arith, rest, some, ap length h.1.parts, length-append h.1.front h.0)
  where
    some-front : (p : List ℕ) → SpellsNext kind last b p → 1 ≤ length p
    some-front [] k = absurd (block-some kind b k.block)
    some-front (y ∷ ys) k = omega arith

choice-kept : (kind : ResourceKind) (x : ChoiceView) (p : List ℕ) → SpellsChoice kind x p
    → (v : ResourcesChoice) × IsChoiceOf v x × (view_count x ≤ length p)
choice-kept kind x p (inl h) =
    subst (λ (y : ChoiceView). (v : ResourcesChoice) × IsChoiceOf v y × (view_count y ≤ length p)) (sym h.stands)
    (Inherit, tt, some p h.spelled)
  where
    some : (q : List ℕ) → SpellsLeaf null false IsNull h.value q → 1 ≤ length q
    some [] k = absurd (leaf-some null false IsNull h.value k)
    some (y ∷ ys) k = omega arith
choice-kept kind x p (inr h) =
    let listed = h.spelled.spelled in
    let held = listed.held in
    let few = few-blocks h.value.kind None held.0 h.value.octets
    (blocks-following h.value.kind held.0 h.value.octets held.1.blocks) in
    let size = tlv-at-least sequence true h.spelled.contents in
    subst (λ (y : ChoiceView). (v : ResourcesChoice) × IsChoiceOf v y × (view_count y ≤ length p)) (sym h.stands) (
      Blocks held.0,
      held.1,
      omega
          (arith, held.1.count, few, ap length listed.octets, ap length h.spelled.value.octets, size),
    )

named-kept : (family : AddressFamily) (x : ChoiceView) (p : List ℕ) → SpellsNamed (family, x) p
    → (v : ResourcesChoice) × IsChoiceOf v x × (view_count x ≤ length p)
named-kept family x p h =
    let (v, k, few) = choice-kept (Addresses family) x h.spelled.second h.spelled.two in
    let parts = length-append h.spelled.first h.spelled.second in
    let size = tlv-at-least sequence true h.contents in
    (v, k, omega (arith, few, ap length h.spelled.parts, parts, ap length h.value.octets, size))

abbrev AreKept : IpResourcesView → List ℕ → Type 0
AreKept x s = (v : IpResources) × AreIpResourcesOf v x × (view_count x.v4 + view_count x.v6 ≤ length s)

families-kept : (x : IpResourcesView) (c : List ℕ) → AreFamilies x c → AreKept x c
families-kept x c (OnlyV4 v4 e s) =
    let (v, k, few) = named-kept Ipv4 v4 c s in
    subst (λ (y : IpResourcesView). AreKept y c) (sym e) (ip_of v Missing, (k, tt), omega (arith, few))
families-kept x c (OnlyV6 v6 e s) =
    let (v, k, few) = named-kept Ipv6 v6 c s in
    subst (λ (y : IpResourcesView). AreKept y c) (sym e) (ip_of Missing v, (tt, k), omega (arith, few))
families-kept x c (BothFamilies v4 v6 e s) =
    let (v, k, few) = named-kept Ipv4 v4 s.first s.one in
    let (w, l, more) = named-kept Ipv6 v6 s.second s.two in
    subst (λ (y : IpResourcesView). AreKept y c) (sym e)
    (ip_of v w, (k, l), omega (arith, few, more, ap length s.parts, length-append s.first s.second))

pub ip-kept : (x : IpResourcesView) (s : List ℕ) → SpellsIpResources x s → AreKept x s
ip-kept x s h =
    let (v, k, few) = families-kept x h.contents h.spelled in
    (v, k, omega (arith, few, ap length h.value.octets, tlv-at-least sequence true h.contents))

pub as-kept : (x : ChoiceView) (s : List ℕ) → SpellsAsResources x s → (v : ResourcesChoice) × IsChoiceOf v x
as-kept x s h = let k = choice-kept AsNumbers x h.spelled.contents h.spelled.spelled in (k.0, k.1)

-- the octets are those resources
pub ip-spelled : (x : IpResourcesView) (v : IpResources) (s : List ℕ) → SpellsIpResources x s → AreIpResourcesOf v x
    → SpellsIp v s
ip-spelled x v s h k = record { value = x; spelled = h; stands = k }

pub as-spelled : (x : ChoiceView) (v : ResourcesChoice) (s : List ℕ) → SpellsAsResources x s → IsChoiceOf v x
    → SpellsAs (as_of v) s
as-spelled x v s h k = record { value = x; spelled = h; stands = k }

-- blocks of AS numbers are AS numbers
pub as-fit : (x : Octets) (s : List ℕ) → SpellsAsResources (ChoiceView.Blocks x) s → (bs : List Block) → Holds x bs
    → AreBlocksOf AsNumbers bs
as-fit x s h bs k = (as-writable (as_of (Blocks bs)) s (as-spelled (ChoiceView.Blocks x) (Blocks bs) s h k)).numbers.fit

-- ---- one entry

pub one-filled : {E : Type 0} (from : ℕ) (e : E) (old : List E) → from + 1 ≤ length old
    → IsFilledAt from (e ∷ []) old (set old from e)
one-filled {E} from e old room =
    let within : from < length old = omega (arith, room) in
    let next : suc from ≡ from + 1 = omega arith in
    record {
      room = room;
      array = set_split old from e within ∙ ap (λ (k : ℕ). take from old ++ e ∷ drop k old) next;
    }

-- ---- What the calls on contents of the extensions of resources return

-- ---- entries

-- entries at the front of the array
first-filled : {E : Type 0} (es old new : List E) (told : ℕ) → told ≡ length es → IsFilledAt 0 es old new
    → AreFilled es old new told
first-filled {E} es old new told size h =
    let same : 0 + length es ≡ length es = omega arith in
    record {
      room = omega (arith, h.room);
      array = h.array ∙ ap (λ (k : ℕ). es ++ drop k old) same;
      size = size;
    }

-- and others after them
pub two-filled : {E : Type 0} (es fs old mid new : List E) (n told : ℕ) → n ≡ length es → told ≡ n + length fs
    → IsFilledAt 0 es old mid → IsFilledAt n fs mid new → told ≤ length old → AreFilled (es ++ fs) old new told
two-filled {E} es fs old mid new n told is size h k room =
    let both : length (es ++ fs) ≡ length es + length fs = length-append es fs in
    let same : 0 + length es ≡ length es = omega arith in
    let first : mid ≡ es ++ drop (length es) old = h.array ∙ ap (λ (m : ℕ). es ++ drop m old) same in
    let front : take n mid ≡ es =
    ap (λ (m : ℕ). take m mid) is ∙ ap (take (length es)) first ∙ take-append_seam es (drop (length es) old) in
    let rest : drop (length es) mid ≡ drop (length es) old =
    ap (drop (length es)) first ∙ drop-append_seam es (drop (length es) old) in
    let behind : drop (n + length fs) mid ≡ drop (length (es ++ fs)) old =
    ap (λ (m : ℕ). drop (m + length fs) mid) is ∙ sym (drop-drop (length fs) (length es) mid)
    ∙ ap (drop (length fs)) rest ∙ drop-drop (length fs) (length es) old
    ∙ ap (λ (m : ℕ). drop m old) (sym both) in
    record {
      room = omega (arith, both, is, size, room);
      array = k.array
          ∙ ap (λ (l : List E). l ++ (fs ++ drop (n + length fs) mid)) front
          ∙ ap (λ (l : List E). es ++ (fs ++ l)) behind
          ∙ sym (append_assoc es fs (drop (length (es ++ fs)) old));
      size = omega (arith, both, is, size);
    }

ip-count : (v : IpResources) (x : IpResourcesView) → AreIpResourcesOf v x
    → length (ip_entries v) ≡ view_count x.v4 + view_count x.v6
ip-count v x h =
    omega (
      arith,
      length-append (family_entries Ipv4 v.v4) (family_entries Ipv6 v.v6),
      choice-count (inherited_ip Ipv4) (ip_entry Ipv4) v.v4 x.v4 h.0,
      choice-count (inherited_ip Ipv6) (ip_entry Ipv6) v.v6 x.v6 h.1,
    )

module _ {s : List ℕ} {x : IpResourcesView} (h : SpellsIpResources x s) {old : List IpEntry} {before : ℕ} (told n : ℕ)
    (first : n ≡ view_count x.v4) (all : told ≡ n + view_count x.v6) where
  pub ip-too-many : length old < told → IsIpFilled s 9 old old before told
  ip-too-many short =
      let (v, k, few) = ip-kept x s h in
      let size = ip-count v x k in
      let told_is : told ≡ length (ip_entries v) = omega (arith, size, first, all) in
      inl (
        v,
        ip-spelled x v s h k,
        inr (refl, record { short = omega (arith, short, told_is); array = refl; size = told_is }),
      )

  pub ip-filled : {mid new : List IpEntry} → told ≤ length old
      → ((v : ResourcesChoice) → IsChoiceOf v x.v4 → IsFilledAt 0 (family_entries Ipv4 v) old mid)
      → ((v : ResourcesChoice) → IsChoiceOf v x.v6 → IsFilledAt n (family_entries Ipv6 v) mid new)
      → IsIpFilled s 0 old new before told
  ip-filled {mid} {new} room one two =
      let (v, k, few) = ip-kept x s h in
      let four = choice-count (inherited_ip Ipv4) (ip_entry Ipv4) v.v4 x.v4 k.0 in
      let six = choice-count (inherited_ip Ipv6) (ip_entry Ipv6) v.v6 x.v6 k.1 in
      inl (
        v,
        ip-spelled x v s h k,
        inl (
          refl,
          two-filled (family_entries Ipv4 v.v4) (family_entries Ipv6 v.v6) old mid new n told (first ∙ sym four)
              (omega (arith, all, six)) (one v.v4 k.0) (two v.v6 k.1) room,
        ),
      )

module _ {s : List ℕ} {x : ChoiceView} (h : SpellsAsResources x s) {old : List AsEntry} {before told : ℕ}
    (all : told ≡ view_count x) where
  pub as-too-many : length old < told → IsAsFilled s 9 old old before told
  as-too-many short =
      let (v, k) = as-kept x s h in
      let told_is : told ≡ length (as_entries v) = all ∙ sym (choice-count inherited_as as_entry v x k) in
      inl (
        as_of v,
        as-spelled x v s h k,
        inr (refl, record { short = omega (arith, short, told_is); array = refl; size = told_is }),
      )

  pub as-filled : {new : List AsEntry} (v : ResourcesChoice) → IsChoiceOf v x → IsFilledAt 0 (as_entries v) old new
      → IsAsFilled s 0 old new before told
  as-filled {new} v k f =
      let told_is : told ≡ length (as_entries v) = all ∙ sym (choice-count inherited_as as_entry v x k) in
      inl (as_of v, as-spelled x v s h k, inl (refl, first-filled (as_entries v) old new told told_is f))

-- resources that list blocks
pub blocks-kept : (x : Octets) (v : ResourcesChoice) → IsChoiceOf v (ChoiceView.Blocks x)
    → (bs : List Block) × Holds x bs
blocks-kept x (ResourcesChoice.Blocks bs) h = (bs, h)
blocks-kept x v h = absurd h

-- ---- resources that octets are

pub kept-as : (x : ChoiceView) (s : List ℕ) → SpellsAsResources x s → (v : AsResources) × SpellsAs v s
kept-as x s h = let v = as-kept x s h in (as_of v.0, as-spelled x v.0 s h v.1)

pub kept-ip : (x : IpResourcesView) (s : List ℕ) → SpellsIpResources x s → (v : IpResources) × SpellsIp v s
kept-ip x s h = let v = ip-kept x s h in (v.0, ip-spelled x v.0 s h v.1)

-- ---- Resources settled under those of an issuer

-- ---- why nothing is settled

pub refused-by : (O : Type 0) (e : SettleError) (n : ℕ) → (e ≡ SettleError.Overclaim → n ≡ 58)
    → (e ≢ SettleError.Overclaim → n ≡ 7) → (e ≡ SettleError.Overclaim → O) → ((n ≡ 58) × O) ⊎ (n ≡ 7)
refused-by O SettleError.Overclaim n h k o = inl (h refl, o refl)
refused-by O SettleError.Inherits n h k o = inr (k (λ is. cc))
refused-by O SettleError.OutOfMemory n h k o = inr (k (λ is. cc))

-- ---- numbers of autonomous systems

pub among-small : (k n : ℕ) (bs : List Block) → All (λ (b : Block). b.high < k) bs → IsAmong n bs → n < k
among-small k n [] h a = absurd a
among-small k n (b ∷ bs) h (inl a) =
    let top : b.high < k = h 0 b (omega arith) in
    omega (arith, a.1, top)
among-small k n (b ∷ bs) h (inr a) = among-small k n bs (λ i d w. h (suc i) d (omega (arith, w))) a

fits : (bs : List Block) → AreCanonical bs → ((n : ℕ) → IsAmong n bs → n < 2 ^ 32) → AreBlocksOf AsNumbers bs
fits [] c h = tt
fits (b ∷ bs) c h = ((c.0, h b.high (inl (c.0, omega arith))), fits bs c.2 (λ n a. h n (inr a)))

pub settled-fits : (policy : Overclaim) (v : ResourcesChoice) (issuer own : List Block) → AreFitting v
    → ((n : ℕ) → IsAmong n issuer → n < 2 ^ 32) → AreCanonical own → IsSettledBy policy v issuer own
    → AreBlocksOf AsNumbers own
settled-fits Refuse Missing issuer own f h c s = subst (AreBlocksOf AsNumbers) (sym s.claimed) tt
settled-fits Refuse Inherit issuer own f h c s =
    fits own c (λ n a. h n (subst (IsAmong n) s.claimed a))
settled-fits Refuse (Blocks bs) issuer own f h c s = subst (AreBlocksOf AsNumbers) (sym s.claimed) f
settled-fits Trim Missing issuer own f h c s = subst (AreBlocksOf AsNumbers) (sym s) tt
settled-fits Trim Inherit issuer own f h c s = fits own c (λ n a. h n (subst (IsAmong n) s a))
settled-fits Trim (Blocks bs) issuer own f h c s = fits own c (λ n a. h n ((s.numbers n).0 a).1)

-- ---- What a certificate claims of resources, kept

pub addresses-kept : (found : Option ExtensionParts) (said : Option IpResourcesView)
    → Says true SpellsIpResources found said → (v : IpResources) × AreIpResourcesOf v (claimed_addresses said)
addresses-kept found None h = (ip_of Missing Missing, (tt, tt))
addresses-kept found (Some x) h = let k = ip-kept x h.0.content h.3 in (k.0, k.1)

pub numbers-kept : (found : Option ExtensionParts) (said : Option ChoiceView)
    → Says true SpellsAsResources found said → (v : ResourcesChoice) × IsChoiceOf v (claimed_numbers said)
numbers-kept found None h = (Missing, tt)
numbers-kept found (Some x) h = as-kept x h.0.content h.3

-- what is listed are numbers of autonomous systems
claim-fits : (x : ChoiceView) (s : List ℕ) → SpellsAsResources x s → (v : ResourcesChoice) → IsChoiceOf v x
    → AreFitting v
claim-fits (ChoiceView.Blocks x) s h (Blocks bs) k = as-fit x s h bs k
claim-fits x s h (Blocks bs) k = absurd k
claim-fits x s h v k = tt

pub numbers-fit : (found : Option ExtensionParts) (said : Option ChoiceView) → Says true SpellsAsResources found said
    → (v : ResourcesChoice) → IsChoiceOf v (claimed_numbers said) → AreFitting v
numbers-fit found None h Missing k = tt
numbers-fit found None h v k = absurd k
numbers-fit found (Some x) h v k = claim-fits x h.0.content h.3 v k

-- of a trust anchor
pub anchored-fits : (v : ResourcesChoice) (own : List Block) → AreFitting v → IsAnchored v own
    → AreBlocksOf AsNumbers own
anchored-fits Missing own f h = subst (AreBlocksOf AsNumbers) (sym h) tt
anchored-fits Inherit own f h = absurd h
anchored-fits (Blocks bs) own f h = subst (AreBlocksOf AsNumbers) (sym h) f
