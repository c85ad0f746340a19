use Rattle.std.proofs.Common.{inl, inr, refl, sym, subst, true, false}
use Rattle.std.proofs.lemmas.Bool.{false≢true}
use Rattle.rpki_crl.specs.Crl.{each_entry, listed}
use Rattle.rpki_c.proofs.ObjectLaws.{entries-spelled}
use Rattle.rpki_c.proofs.RevokedLaws.{told, not-few}
use Rattle.rpki_c.proofs.crl_revokes.rpki_crl_revokes.Goals as goal

pub returns-in_default : goal.returns-in_default
returns-in_default c =
    let (x, h) = c.in-Ok.ensures.ok in
    inr (x, h.spelled, inl (not-few _ (λ few. false≢true (c.in_default.ensures.succeeds.1 few)), refl))

pub returns-in-Ok-true : goal.returns-in-Ok-true
returns-in-Ok-true c =
    let (x, h) = c.in-Ok.ensures.ok in
    let o = h.spelled.stands.list.spelled.two.two.two.two in
    let all = entries-spelled x.list.revoked x.list.extensions o.second o.two in
    let own = subst (each_entry.spells (listed x.list.revoked)) (sym h.tbs.revoked.octets) all in
    let few = c.in-Ok-from_array.ensures.succeeds.0 refl in
    let said = told c.in-Ok-from_array.number _ c.in-Ok-true.field-0 true _ c.in-Ok-true.ensures
    c.in-Ok-from_array.ensures.value c.in-Ok-true.field-0-test (listed x.list.revoked) own in
    inr (x, h.spelled, inr (few, inr (refl, said)))

pub returns-in-Ok-false : goal.returns-in-Ok-false
returns-in-Ok-false c =
    let (x, h) = c.in-Ok.ensures.ok in
    let o = h.spelled.stands.list.spelled.two.two.two.two in
    let all = entries-spelled x.list.revoked x.list.extensions o.second o.two in
    let own = subst (each_entry.spells (listed x.list.revoked)) (sym h.tbs.revoked.octets) all in
    let few = c.in-Ok-from_array.ensures.succeeds.0 refl in
    let said = told c.in-Ok-from_array.number _ c.in-Ok-false.field-0 false _ c.in-Ok-false.ensures
    c.in-Ok-from_array.ensures.value c.in-Ok-false.field-0-test (listed x.list.revoked) own in
    inr (x, h.spelled, inr (few, inl (refl, said)))

pub returns-in-Err-entries_contain : goal.returns-in-Err-entries_contain
returns-in-Err-entries_contain c =
    let (x, h) = c.in-Ok.ensures.ok in
    let o = h.spelled.stands.list.spelled.two.two.two.two in
    let all = entries-spelled x.list.revoked x.list.extensions o.second o.two in
    let own = subst (each_entry.spells (listed x.list.revoked)) (sym h.tbs.revoked.octets) all in
    absurd (c.in-Err-entries_contain.ensures.0 (listed x.list.revoked) own)
