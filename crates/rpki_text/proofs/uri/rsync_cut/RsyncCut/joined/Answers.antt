use Rattle.std.proofs.Common.{rules, ◌≡◌, ◌<◌, [], length, arith, ap, ◌∙◌}
use Rattle.std.proofs.lemmas.Grind.{common_steps}
use Rattle.std.proofs.lemmas.Result.{err_from_is_err_and}
use Rattle.rpki_text.specs.RsyncText.{joined}
use Rattle.rpki_text.specs.Cuts.{joined_text}
use Rattle.rpki_text.proofs.JoinLaws.{join-refuses-characters, join-refuses-path, join-refuses-length}
use Rattle.rpki_text.proofs.JoinLaws.{join-refuses-nothing, join-refuses-nothing-empty}
use Rattle.rpki_text.proofs.MemoryLaws.{path-memory}
use Rattle.rpki_text.proofs.JoinedLaws.{marked-empty}
use Rattle.rpki_text.proofs.OwnLaws.{own-joined}
use Rattle.rpki_text.proofs.uri.rsync_cut.RsyncCut.joined.Goals as goal

pub returns-then-is_empty-clause-text : goal.returns-then-is_empty-clause-text
returns-then-is_empty-clause-text c a =
    let e : c.args.path.now ≡ [] = search (rules, common_steps) in
    c.new.ensures ∙ marked-empty c.args.self.now.text.now c.args.path.now e

pub returns-then-is_empty-clause-ok : goal.returns-then-is_empty-clause-ok
returns-then-is_empty-clause-ok c a =
    let e : c.args.path.now ≡ [] = search (rules, common_steps) in
    join-refuses-nothing-empty c.args.self.now.text.now c.args.path.now e

pub returns-in_err-check_uri_ascii-clause-err : goal.returns-in_err-check_uri_ascii-clause-err
returns-in_err-check_uri_ascii-clause-err c =
    let some : 0 < length c.args.path.now = grind (arith, common_steps) in
    let p = err_from_is_err_and c.from_residual.result c.from_residual.ensures.1 in
    rw (p.1, p.2, c.in_err-check_uri_ascii.ensures.0)
    (λ a. join-refuses-characters c.args.self.now.text.now c.args.path.now some c.in_err-check_uri_ascii.ensures.1)

pub returns-in_err-check_path-clause-err : goal.returns-in_err-check_path-clause-err
returns-in_err-check_path-clause-err c =
    let some : 0 < length c.args.path.now = grind (arith, common_steps) in
    let p = err_from_is_err_and c.from_residual-in_err-check_path.result c.from_residual-in_err-check_path.ensures.1 in
    rw (p.1, p.2) (λ a. join-refuses-path c.args.self.now.text.now c.args.path.now _ some
    c.in_ok-check_uri_ascii.ensures c.in_err-check_path.ensures)

pub returns-in_err-check_path-clause-memory : goal.returns-in_err-check_path-clause-memory
returns-in_err-check_path-clause-memory c =
    let p = err_from_is_err_and c.from_residual-in_err-check_path.result c.from_residual-in_err-check_path.ensures.1 in
    rw (p.1, p.2) (path-memory c.args.path.now _ c.in_err-check_path.ensures)

-- the text that is made is the one that is meant
pub returns-clause-text : goal.returns-clause-text
returns-clause-text c a =
    let some : 0 < length c.args.path.now = grind (arith, common_steps) in
    rw (c.new-joined.ensures, c.path_is_dir.ensures) (own-joined c.args.self.now c.args.path.now a some)

pub returns-then-len-ge-LEN_LIMIT-clause-err : goal.returns-then-len-ge-LEN_LIMIT-clause-err
returns-then-len-ge-LEN_LIMIT-clause-err c a =
    let some : 0 < length c.args.path.now = grind (arith, common_steps) in
    let text : joined_text c.new-joined.result ≡ joined c.args.self.now.text.now c.args.path.now =
    rw (c.new-joined.ensures, c.path_is_dir.ensures) (own-joined c.args.self.now c.args.path.now a some) in
    join-refuses-length c.args.self.now.text.now c.args.path.now some c.in_ok-check_uri_ascii.ensures
    c.in_ok-check_path.ensures (omega (arith, ap length text))

pub returns-clause-ok : goal.returns-clause-ok
returns-clause-ok c a =
    let some : 0 < length c.args.path.now = grind (arith, common_steps) in
    let text : joined_text c.new-joined.result ≡ joined c.args.self.now.text.now c.args.path.now =
    rw (c.new-joined.ensures, c.path_is_dir.ensures) (own-joined c.args.self.now c.args.path.now a some) in
    join-refuses-nothing c.args.self.now.text.now c.args.path.now some c.in_ok-check_uri_ascii.ensures
    c.in_ok-check_path.ensures (omega (arith, ap length text))
