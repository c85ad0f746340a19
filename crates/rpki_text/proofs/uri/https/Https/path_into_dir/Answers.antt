use Rattle.std.proofs.Common.{◌≡◌, ◌++◌, codes, sym, ap, ◌∙◌}
use Rattle.std.proofs.Math.Seq.{take-append_seam}
use Rattle.rpki_text.specs.HttpsText.{IsHttpsCut, https_into_dir}
use Rattle.rpki_text.proofs.HttpsPartLaws.{https_into_dir-dir, https_into_dir-open, into_dir-kept, into_dir-cut}
use Rattle.rpki_text.proofs.HttpsPartLaws.{https_into_dir-meaning}
use Rattle.rpki_text.proofs.uri.https.Https.path_into_dir.Goals as goal

pub returns-then-path_is_dir-clause-ok : goal.returns-then-path_is_dir-clause-ok
returns-then-path_is_dir-clause-ok c =
    sym (https_into_dir-dir c.args.self.now (sym c.path_is_dir.ensures ∙ c.if-path_is_dir.true))

pub returns-then-path_is_dir-clause-meaning : goal.returns-then-path_is_dir-clause-meaning
returns-then-path_is_dir-clause-meaning c =
    into_dir-kept c.args.self.now (sym c.path_is_dir.ensures ∙ c.if-path_is_dir.true)

whole : (c : goal.Joined-self-bytes) → c.in_ok-bytes.bytes ≡ https_into_dir c.args.self.now
whole c = c.in_ok-bytes.ensures ∙ c.as_dir.ensures c.cut.ensures.own ∙ ap https_into_dir c.cut.ensures.text

text : (c : goal.Joined-self-bytes) → c.in_ok-bytes.bytes ≡ c.args.self.now ++ codes "/"
text c = whole c ∙ https_into_dir-open c.args.self.now (sym c.path_is_dir.ensures ∙ c.if-path_is_dir.false)

pub invariant_of-self : goal.invariant_of-self
invariant_of-self c = rw (text c, ← c.self.view_is) (into_dir-cut c.self.inside.bytes _ c.self.invariant)

pub returns-clause-ok : goal.returns-clause-ok
returns-clause-ok c = whole c

pub returns-clause-meaning : goal.returns-clause-meaning
returns-clause-meaning c =
    let mine : IsHttpsCut c.args.self.now c.self.inside.path_start = rw (← c.self.view_is) c.self.invariant in
    rw (text c) (https_into_dir-meaning c.args.self.now _ mine (sym c.path_is_dir.ensures ∙ c.if-path_is_dir.false))

pub returns-clause-begins : goal.returns-clause-begins
returns-clause-begins c = rw (text c) (take-append_seam c.args.self.now (codes "/"))
