use Rattle.std.proofs.Common.{◌≡◌, List, ℕ, sym, ap, ◌∙◌, subst}
use Rattle.rpki_text.specs.Segments.{is_dir, with_slash}
use Rattle.rpki_text.specs.RsyncText.{IsCut, path_of}
use Rattle.rpki_text.proofs.JoinLaws.{cut-dir, is_dir-text, with_slash-dir}
use Rattle.rpki_text.proofs.MeaningLaws.{into_dir-begins, into_dir-meaning, into_dir-same}
use Rattle.rpki_text.proofs.uri.rsync.Rsync.path_into_dir.Goals as goal

whole : (c : goal.Joined-self-bytes) → c.in_ok-bytes.bytes ≡ with_slash c.args.self.now
whole c = c.in_ok-bytes.ensures ∙ c.as_dir.ensures c.cut.ensures.own ∙ ap with_slash c.cut.ensures.text

pub invariant_of-self : goal.invariant_of-self
invariant_of-self c =
    let d = cut-dir c.self.inside.bytes _ _ c.self.invariant in
    subst (λ (b : List ℕ). IsCut b c.self.inside.places.module_start c.self.inside.places.path_start)
    (sym (whole c ∙ ap with_slash (sym c.self.view_is))) d

pub returns-clause-ok : goal.returns-clause-ok
returns-clause-ok c = whole c

pub returns-then-path_is_dir-clause-ok : goal.returns-then-path_is_dir-clause-ok
returns-then-path_is_dir-clause-ok c =
    let whole : is_dir c.self.inside.bytes ≡ is_dir (path_of c.self.inside.bytes) = is_dir-text c.self.inside.bytes _ _
    c.self.invariant in
    let path = ap (λ b. is_dir (path_of b)) c.self.view_is in
    let marked = sym c.path_is_dir.ensures ∙ c.if-path_is_dir.true in
    rw (← c.self.view_is) (sym (with_slash-dir c.self.inside.bytes (whole ∙ path ∙ marked)))

pub returns-then-path_is_dir-clause-meaning : goal.returns-then-path_is_dir-clause-meaning
returns-then-path_is_dir-clause-meaning c =
    into_dir-same c.args.self.now (sym c.path_is_dir.ensures ∙ c.if-path_is_dir.true)

pub returns-clause-meaning : goal.returns-clause-meaning
returns-clause-meaning c =
    let mine : IsCut c.args.self.now c.self.inside.places.module_start c.self.inside.places.path_start = rw
    (← c.self.view_is) c.self.invariant in
    rw (whole c) (into_dir-meaning c.args.self.now _ _ mine
    (sym c.path_is_dir.ensures ∙ c.if-path_is_dir.false))

pub returns-clause-begins : goal.returns-clause-begins
returns-clause-begins c = rw (whole c) (into_dir-begins c.args.self.now)
