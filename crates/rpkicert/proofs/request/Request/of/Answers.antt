use Rattle.std.proofs.Common.{◌≡◌, ◌∙◌, sym, ap, ap₂, map, refl, rules}
use Rattle.std.specs.Prelude.{Some, None, codes, option_map}
use Rattle.clap.specs.Words.{found_of}
use Rattle.clap.proofs.WalkLemmas.{first_value-rows, raw_values-rows}
use Rattle.rpkicert.specs.Request.{form_of, some_files, named_list}
use Rattle.rpkicert.specs.RequestView.{rows_in}
use Rattle.rpkicert.proofs.RequestLaws.{of-parts, of-all}
use Rattle.rpkicert.proofs.request.Request.of.Goals as goal

pub returns-in_err-inspection : goal.returns-in_err-inspection
returns-in_err-inspection c =
    let none : c.from_residual.result ≡ None = search rules in
    let inspection : c.named_inspection.result ≡ None = search rules in
    let named = c.get_str.ensures ∙ first_value-rows (found_of c.args.matches.now) (codes "profile") in
    let given = c.named_inspection.ensures ∙ rw (c.is_given-check.ensures, c.is_given-lax.ensures, named) refl in
    rw none (of-parts (rows_in c.args.matches.now) None _ _ (sym inspection ∙ given) refl refl)

pub returns-in_err-list : goal.returns-in_err-list
returns-in_err-list c =
    let none : c.from_residual-in_err-list.result ≡ None = search rules in
    let inspection : c.named_inspection.result ≡ Some c.in_ok-inspection.inspection = search rules in
    let list : c.named_list.result ≡ None = search rules in
    let named = c.get_str.ensures ∙ first_value-rows (found_of c.args.matches.now) (codes "profile") in
    let given = c.named_inspection.ensures ∙ rw (c.is_given-check.ensures, c.is_given-lax.ensures, named) refl in
    let issuer = c.get_str-2.ensures ∙ first_value-rows (found_of c.args.matches.now) (codes "issuer") in
    let crl = c.get_str-3.ensures ∙ first_value-rows (found_of c.args.matches.now) (codes "crl") in
    let listed = c.named_list.ensures ∙ ap₂ named_list issuer crl in
    rw none (of-parts (rows_in c.args.matches.now) (Some c.in_ok-inspection.inspection) None _ (sym inspection ∙ given)
    (rw list at listed) refl)

pub returns-in_err-files : goal.returns-in_err-files
returns-in_err-files c =
    let none : c.from_residual-in_err-files.result ≡ None = search rules in
    let inspection : c.named_inspection.result ≡ Some c.in_ok-inspection.inspection = search rules in
    let list : c.named_list.result ≡ Some c.in_ok-list.list = search rules in
    let files : c.some_files.result ≡ None = search rules in
    let named = c.get_str.ensures ∙ first_value-rows (found_of c.args.matches.now) (codes "profile") in
    let given = c.named_inspection.ensures ∙ rw (c.is_given-check.ensures, c.is_given-lax.ensures, named) refl in
    let issuer = c.get_str-2.ensures ∙ first_value-rows (found_of c.args.matches.now) (codes "issuer") in
    let crl = c.get_str-3.ensures ∙ first_value-rows (found_of c.args.matches.now) (codes "crl") in
    let listed = c.named_list.ensures ∙ ap₂ named_list issuer crl in
    let filed = c.some_files.ensures ∙ ap some_files
    (c.get_raw.ensures ∙ raw_values-rows (found_of c.args.matches.now) (codes "FILE")) in
    rw none (of-parts (rows_in c.args.matches.now) (Some c.in_ok-inspection.inspection) _ None (sym inspection ∙ given)
    (rw list at listed) (rw files at filed))

pub returns : goal.returns
returns c =
    let rows = rows_in c.args.matches.now in
    let inspection : c.named_inspection.result ≡ Some c.in_ok-inspection.inspection = search rules in
    let list : c.named_list.result ≡ Some c.in_ok-list.list = search rules in
    let files : c.some_files.result ≡ Some c.in_ok-files.files = search rules in
    let named = c.get_str.ensures ∙ first_value-rows (found_of c.args.matches.now) (codes "profile") in
    let given = c.named_inspection.ensures ∙ rw (c.is_given-check.ensures, c.is_given-lax.ensures, named) refl in
    let own = c.get_str-2.ensures ∙ first_value-rows (found_of c.args.matches.now) (codes "issuer") in
    let crl = c.get_str-3.ensures ∙ first_value-rows (found_of c.args.matches.now) (codes "crl") in
    let listed = c.named_list.ensures ∙ ap₂ named_list own crl in
    let issuer = c.get_str-4.ensures ∙ first_value-rows (found_of c.args.matches.now) (codes "issuer") in
    let moment = c.get_str-5.ensures ∙ first_value-rows (found_of c.args.matches.now) (codes "at") in
    let filed = c.some_files.ensures ∙ ap some_files
    (c.get_raw.ensures ∙ raw_values-rows (found_of c.args.matches.now) (codes "FILE")) in
    of-all rows _ _ _ _ _ c.in_ok-inspection.inspection (option_map (λ name. name.now) c.in_ok-list.list)
    (map (λ file. file.now) c.in_ok-files.files.now) issuer moment
    (c.form_of.ensures ∙ ap form_of c.is_given.ensures) c.is_given-check.ensures c.is_given-2.ensures
    (sym inspection ∙ given) (rw list at listed)
    (rw files at filed)
