-- The counts as objects of JSON. This project's own choice.
use Rattle.std.specs.Prelude.{ℕ, Bool, ◌==◌, if◌then◌else◌, zero, suc, nat_eq, List, [], ◌++◌, decimal, codes, Option, Some, None}
use Rattle.std.specs.Map.{lookup}
use Rattle.pm_decode.specs.JsonText.{number_field}
use Rattle.pm_lines.specs.Numbers.{hex_byte}
use Rattle.pm_table.specs.Commands.{name_of}
use Rattle.pm_trace.specs.Counts.{total_of}
use Rattle.pm_decode.specs.Hearing.{HeardLines, heard_lines}

unfoldable pub count_json : (ℕ × ℕ) → List ℕ
count_json entry = codes "{\"count\":\"" ++ (name_of entry.0 ++ (codes "\",\"lines\":" ++ (decimal entry.1 ++ codes "}\n")))

abbrev pub other_json_by : ℕ → Option ℕ → List ℕ
other_json_by code None = []
other_json_by code (Some count) =
    codes "{\"code\":\"" ++ (hex_byte code ++ (codes "\",\"lines\":" ++ (decimal count ++ codes "}\n")))

abbrev pub other_json : List (ℕ × ℕ) → ℕ → List ℕ
other_json others code = other_json_by code (lookup (nat_eq code) others)

unfoldable pub other_jsons : List (ℕ × ℕ) → ℕ → List ℕ
other_jsons others zero = []
other_jsons others (suc code) = other_jsons others code ++ other_json others code

abbrev pub others_json : Bool → List (ℕ × ℕ) → List ℕ
others_json all others = if all then number_field (codes "other") (total_of others) else []

abbrev pub refused_json : ℕ → List ℕ
refused_json refused = if refused == 0 then [] else number_field (codes "refused") refused

abbrev pub special_json : ℕ → List ℕ
special_json special = if special == 0 then [] else number_field (codes "special") special

abbrev pub faults_json : ℕ → ℕ → ℕ → ℕ → List ℕ
faults_json faults refused special bad = number_field (codes "faults") faults
    ++ (refused_json refused ++ (special_json special ++ (number_field (codes "bad") bad ++ codes "}\n")))

unfoldable pub totals_json : Bool → HeardLines → List ℕ
totals_json all heard = codes "{\"lines\":" ++ (decimal (heard_lines heard)
    ++ (number_field (codes "accepted") heard.counts.accepted ++ (others_json all heard.others
    ++ faults_json heard.counts.faults heard.refused heard.special heard.counts.bad)))
