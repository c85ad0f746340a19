use Rattle.std.proofs.Common.{◌≡◌, ◌∙◌, sym, ap, map, refl, rules}
use Rattle.std.specs.Prelude.{Some, None, codes}
use Rattle.clap.specs.Words.{found_of}
use Rattle.clap.proofs.WalkLemmas.{first_value-rows, raw_values-rows}
use Rattle.rpkivalid.specs.Request.{files_or_none, form_of, some_files, strictness_of}
use Rattle.rpkivalid.specs.RequestView.{rows_in}
use Rattle.rpkivalid.proofs.RequestLaws.{of-parts, of-all}
use Rattle.rpkivalid.proofs.request.Request.of.Goals as goal

pub returns-in_err-form : goal.returns-in_err-form
returns-in_err-form c =
    let none : c.from_residual.result ≡ None = search rules in
    let form : c.form_of.result ≡ None = search rules in
    let named = c.form_of.ensures ∙ ap form_of
    (c.get_str.ensures ∙ first_value-rows (found_of c.args.matches.now) (codes "form")) in
    rw none (of-parts (rows_in c.args.matches.now) None _ _ (sym form ∙ named) refl refl)

pub returns-in_err-cache : goal.returns-in_err-cache
returns-in_err-cache c =
    let none : c.from_residual-in_err-cache.result ≡ None = search rules in
    let form : c.form_of.result ≡ Some c.in_ok-form.form = search rules in
    let named = c.form_of.ensures ∙ ap form_of
    (c.get_str.ensures ∙ first_value-rows (found_of c.args.matches.now) (codes "form")) in
    let cache : c.get_str-2.result ≡ None = search rules in
    let folder = c.get_str-2.ensures ∙ first_value-rows (found_of c.args.matches.now) (codes "cache") in
    rw none (of-parts (rows_in c.args.matches.now) (Some c.in_ok-form.form) None _ (sym form ∙ named)
    (rw cache at folder) refl)

pub returns-in_err-locators : goal.returns-in_err-locators
returns-in_err-locators c =
    let none : c.from_residual-in_err-locators.result ≡ None = search rules in
    let form : c.form_of.result ≡ Some c.in_ok-form.form = search rules in
    let named = c.form_of.ensures ∙ ap form_of
    (c.get_str.ensures ∙ first_value-rows (found_of c.args.matches.now) (codes "form")) in
    let cache : c.get_str-2.result ≡ Some c.in_ok-cache.cache = search rules in
    let folder = c.get_str-2.ensures ∙ first_value-rows (found_of c.args.matches.now) (codes "cache") in
    let files : c.some_files.result ≡ None = search rules in
    let all = c.some_files.ensures ∙ ap some_files
    (c.get_raw.ensures ∙ raw_values-rows (found_of c.args.matches.now) (codes "tal")) in
    rw none (of-parts (rows_in c.args.matches.now) (Some c.in_ok-form.form) (Some c.in_ok-cache.cache.now) None
    (sym form ∙ named) (rw cache at folder) (rw files at all))

pub returns : goal.returns
returns c =
    let rows = rows_in c.args.matches.now in
    let form : c.form_of.result ≡ Some c.in_ok-form.form = search rules in
    let named = c.form_of.ensures ∙ ap form_of
    (c.get_str.ensures ∙ first_value-rows (found_of c.args.matches.now) (codes "form")) in
    let cache : c.get_str-2.result ≡ Some c.in_ok-cache.cache = search rules in
    let folder = c.get_str-2.ensures ∙ first_value-rows (found_of c.args.matches.now) (codes "cache") in
    let files : c.some_files.result ≡ Some c.in_ok-locators.locators = search rules in
    let all = c.some_files.ensures ∙ ap some_files
    (c.get_raw.ensures ∙ raw_values-rows (found_of c.args.matches.now) (codes "tal")) in
    let moment = c.get_str-3.ensures ∙ first_value-rows (found_of c.args.matches.now) (codes "at") in
    let output = c.get_str-4.ensures ∙ first_value-rows (found_of c.args.matches.now) (codes "output") in
    let depth = c.get_str-5.ensures ∙ first_value-rows (found_of c.args.matches.now) (codes "depth") in
    let exceptions = c.files_or_none.ensures ∙ ap files_or_none
    (c.get_raw-2.ensures ∙ raw_values-rows (found_of c.args.matches.now) (codes "exceptions")) in
    let metrics = c.get_str-6.ensures ∙ first_value-rows (found_of c.args.matches.now) (codes "metrics") in
    let explain = c.get_str-7.ensures ∙ first_value-rows (found_of c.args.matches.now) (codes "explain") in
    let number = c.get_str-8.ensures ∙ first_value-rows (found_of c.args.matches.now) (codes "as") in
    let compare = c.get_str-9.ensures ∙ first_value-rows (found_of c.args.matches.now) (codes "compare") in
    let least = c.get_str-10.ensures ∙ first_value-rows (found_of c.args.matches.now) (codes "least") in
    of-all rows _ _ _ _ _ _ _ _ _ _ c.in_ok-form.form c.in_ok-cache.cache.now
    (map (λ file. file.now) c.in_ok-locators.locators.now)
    (c.strictness_of.ensures ∙ ap strictness_of c.is_given.ensures) moment output depth exceptions metrics
    explain number compare least (sym form ∙ named) (rw cache at folder) (rw files at all)
