use Rattle.std.proofs.Common.{◌≡◌, refl, ap, ◌∙◌, sym}
use Rattle.std.proofs.lemmas.Result.{err_from_is_err_and}
use Rattle.rpki_text.specs.HttpsText.{https_joined}
use Rattle.rpki_text.proofs.HttpsPartLaws.{https_joined-cut, https_joined-meaning, https_joined-begins, https-join-ok}
use Rattle.rpki_text.proofs.HttpsPartLaws.{https-join-refuses}
use Rattle.rpki_text.proofs.uri.https.Https.join.Goals as goal

pub returns-in_err-joined-clause-err : goal.returns-in_err-joined-clause-err
returns-in_err-joined-clause-err c =
    let p = err_from_is_err_and c.from_residual.result c.from_residual.ensures.1 in
    rw (
      p.1,
      p.2,
      c.in_err-joined.ensures.err.0,
      https-join-refuses c.args.path.now
          c.in_err-joined.ensures.err.1,
    ) refl

pub returns-in_err-bytes-clause-err : goal.returns-in_err-bytes-clause-err
returns-in_err-bytes-clause-err c =
    let p = err_from_is_err_and c.from_residual-in_err-bytes.result c.from_residual-in_err-bytes.ensures.1 in
    rw (p.1, p.2, https-join-ok c.args.path.now c.in_ok-joined.ensures.ok) refl

text : (c : goal.In_ok-bytes) → c.in_ok-bytes.bytes ≡ https_joined c.self.inside.bytes c.args.path.now
text c =
    c.in_ok-bytes.ensures ∙ c.in_ok-joined.ensures.text c.cut.ensures.own
    ∙ ap (λ t. https_joined t c.args.path.now) (c.cut.ensures.text ∙ sym c.self.view_is)

pub invariant_of-result : goal.invariant_of-result
invariant_of-result c = rw (text c) (https_joined-cut c.self.inside.bytes _ c.self.invariant c.args.path.now
    c.in_ok-joined.ensures.ok)

pub returns-clause-text : goal.returns-clause-text
returns-clause-text c = rw (← c.self.view_is) (text c)

pub returns-clause-meaning : goal.returns-clause-meaning
returns-clause-meaning c = rw (text c, ← c.self.view_is)
    (https_joined-meaning c.self.inside.bytes _ c.self.invariant c.args.path.now c.in_ok-joined.ensures.ok)

pub returns-clause-begins : goal.returns-clause-begins
returns-clause-begins c = rw (text c, ← c.self.view_is) (https_joined-begins c.self.inside.bytes c.args.path.now)

pub returns-clause-ok : goal.returns-clause-ok
returns-clause-ok c = https-join-ok c.args.path.now c.in_ok-joined.ensures.ok
