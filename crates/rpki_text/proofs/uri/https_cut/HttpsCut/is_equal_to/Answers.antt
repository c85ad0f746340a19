use Rattle.std.proofs.Common.{◌&&◌, bytes_eq, sym, ap, ◌∙◌}
use Rattle.rpki_text.specs.Cuts.{https_path_in}
use Rattle.rpki_text.proofs.OwnLaws.{own-https-same}
use Rattle.rpki_text.proofs.uri.https_cut.HttpsCut.is_equal_to.Goals as goal

pub returns-then-has_authority_of : goal.returns-then-has_authority_of
returns-then-has_authority_of c a b =
    let u = c.args.self.now in
    let v = c.args.other.now in
    rw (c.eq.ensures, c.path.ensures, c.path-then-has_authority_of.ensures)
    (sym (ap (λ x. x && bytes_eq (https_path_in u) (https_path_in v))
    (sym c.has_authority_of.ensures ∙ c.if-has_authority_of.true))
    ∙ own-https-same u v a b)

pub returns-else-has_authority_of : goal.returns-else-has_authority_of
returns-else-has_authority_of c a b =
    let u = c.args.self.now in
    let v = c.args.other.now in
    c.if-has_authority_of.false ∙ sym (ap (λ x. x && bytes_eq (https_path_in u) (https_path_in v))
    (sym c.has_authority_of.ensures ∙ c.if-has_authority_of.false)) ∙ own-https-same u v a b
