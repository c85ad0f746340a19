-- Texts of a run that are no payloads.
use Rattle.std.specs.Prelude.{◌++◌, ℕ, List, codes}

-- the program's version
abbrev pub version_number : List ℕ
version_number = codes "0.2.0"

abbrev pub memory_text : List ℕ
memory_text = codes "rpkivalid: out of memory\n"

-- how the program is used
abbrev pub usage_text : List ℕ
usage_text =
    codes "usage: rpkivalid --tal FILE.. --cache FOLDER [--at MOMENT] "
    ++ codes "[--form csv|json|stayrtr|rpki-client|openbgpd|openbgpd-origins|bird] "
    ++ codes "[--output FILE] [--least NUMBER] [--exceptions FILE..] [--metrics FILE] "
    ++ codes "[--depth N] [--strict] [--quiet] [--log FILE] "
    ++ codes "[--explain URI|PREFIX [--as NUMBER]] [--compare FILE]\n"
