-- The runs that the code searches hold the tables of RFC 3454, each shown by a computation.
use Rattle.std.proofs.Common.{◌≡◌, Bool, true, false, ◌||◌, List, [], ◌∷◌, refl, sym}
use Rattle.std.proofs.lemmas.Bool.{and_parts}
use Rattle.std.specs.List.{list_all, list_any}
use Rattle.ucd_table.specs.Rows.{Range, in_ranges}
use Rattle.ucd_table.specs.Steps.{IsSetOf}
use Rattle.ucd_table.proofs.Computing.{tables}
use Rattle.ucd_table.proofs.RunsLemmas.{IsSetOf-Stepped}
use Rattle.ucd_table.proofs.Stepped.{Stepped, of_ranges, zip_stepped}
use Rattle.ucd_table.proofs.StepsLemmas.{rises_from, range_rows, step_value-nil}
use Rattle.saslprep.specs.Saslprep.{prohibited_tables, is_prohibited, is_right_to_left, is_left_to_right, is_unassigned}
use Rattle.saslprep.specs.Tables.{a_1, b_1, c_1_2, c_2_1, c_2_2, c_3, c_4, c_5, c_6, c_7, c_8, c_9, d_1, d_2}
use Rattle.saslprep.specs.declared.table_runs.TheConstants.{UNASSIGNED, MAPPED_TO_NOTHING, SPACES, PROHIBITED, RIGHT_TO_LEFT, LEFT_TO_RIGHT}

-- each table rises
abbrev pub all_rise : List (List Range) → Bool
all_rise = list_all (λ table. rises_from 0 (range_rows table))

-- the steps of a union of tables
unfoldable pub union_stepped : (ts : List (List Range)) → all_rise ts ≡ true →
    Stepped (λ c. list_any (λ table. in_ranges table c) ts)
union_stepped [] h = record { default = false; steps = []; gives = λ c. sym (step_value-nil false c) }
union_stepped (t ∷ ts) h =
    let parts = and_parts (rises_from 0 (range_rows t)) (all_rise ts) h in
    zip_stepped ◌||◌ (in_ranges t) (λ c. list_any (λ table. in_ranges table c) ts) (of_ranges t parts.0)
    (union_stepped ts parts.1)

unfoldable pub is_prohibited_stepped : Stepped is_prohibited
unfolding is_prohibited rises_from c_1_2 c_2_1 c_2_2 c_3 c_4 c_5 c_6 c_7 c_8 c_9
is_prohibited_stepped = union_stepped prohibited_tables refl

unfoldable pub spaces_stepped : Stepped (in_ranges c_1_2)
unfolding rises_from c_1_2
spaces_stepped = of_ranges c_1_2 refl

unfoldable pub nothing_stepped : Stepped (in_ranges b_1)
unfolding rises_from b_1
nothing_stepped = of_ranges b_1 refl

unfoldable pub is_unassigned_stepped : Stepped is_unassigned
unfolding is_unassigned rises_from a_1
is_unassigned_stepped = of_ranges a_1 refl

unfoldable pub is_right_to_left_stepped : Stepped is_right_to_left
unfolding is_right_to_left rises_from d_1
is_right_to_left_stepped = of_ranges d_1 refl

unfoldable pub is_left_to_right_stepped : Stepped is_left_to_right
unfolding is_left_to_right rises_from d_2
is_left_to_right_stepped = of_ranges d_2 refl

pub SPACES-set : IsSetOf SPACES (in_ranges c_1_2)
unfolding tables spaces_stepped
SPACES-set = IsSetOf-Stepped _ _ spaces_stepped refl

pub MAPPED_TO_NOTHING-set : IsSetOf MAPPED_TO_NOTHING (in_ranges b_1)
unfolding tables nothing_stepped
MAPPED_TO_NOTHING-set = IsSetOf-Stepped _ _ nothing_stepped refl

pub PROHIBITED-set : IsSetOf PROHIBITED is_prohibited
unfolding tables union_stepped is_prohibited_stepped
PROHIBITED-set = IsSetOf-Stepped _ _ is_prohibited_stepped refl

pub RIGHT_TO_LEFT-set : IsSetOf RIGHT_TO_LEFT is_right_to_left
unfolding tables is_right_to_left_stepped
RIGHT_TO_LEFT-set = IsSetOf-Stepped _ _ is_right_to_left_stepped refl

pub LEFT_TO_RIGHT-set : IsSetOf LEFT_TO_RIGHT is_left_to_right
unfolding tables is_left_to_right_stepped
LEFT_TO_RIGHT-set = IsSetOf-Stepped _ _ is_left_to_right_stepped refl

pub UNASSIGNED-set : IsSetOf UNASSIGNED is_unassigned
unfolding tables is_unassigned_stepped
UNASSIGNED-set = IsSetOf-Stepped _ _ is_unassigned_stepped refl
