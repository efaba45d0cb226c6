use Rattle.std.proofs.Common.{◌≡◌, true, false, sym, ◌∙◌, refl}
use Rattle.ucd_table.specs.Rows.{in_ranges}
use Rattle.saslprep.specs.Saslprep.{mapping}
use Rattle.saslprep.specs.Tables.{b_1, c_1_2}
use Rattle.saslprep.proofs.lemmas.TableLemmas.{SPACES-set, MAPPED_TO_NOTHING-set}
use Rattle.saslprep.proofs.tables.mapped.Goals as goal

pub contains-requires : goal.contains-requires
contains-requires c = SPACES-set.partition

pub contains-requires-else-contains : goal.contains-requires-else-contains
contains-requires-else-contains c = MAPPED_TO_NOTHING-set.partition

pub returns-then-contains : goal.returns-then-contains
unfolding mapping
returns-then-contains c =
    let space : in_ranges c_1_2 c.args.c ≡ true = sym (c.contains.ensures _ SPACES-set) ∙ c.if-contains.true in
    rw space refl

pub returns-then-contains-2 : goal.returns-then-contains-2
unfolding mapping
returns-then-contains-2 c =
    let no_space : in_ranges c_1_2 c.args.c ≡ false = sym (c.contains.ensures _ SPACES-set) ∙ c.if-contains.false in
    let nothing : in_ranges b_1 c.args.c ≡ true = sym (c.contains-else-contains.ensures _ MAPPED_TO_NOTHING-set)
    ∙ c.if-contains-2.true in
    rw (no_space, nothing) refl

pub returns-else-contains-2 : goal.returns-else-contains-2
unfolding mapping
returns-else-contains-2 c =
    let no_space : in_ranges c_1_2 c.args.c ≡ false = sym (c.contains.ensures _ SPACES-set) ∙ c.if-contains.false in
    let something : in_ranges b_1 c.args.c ≡ false = sym (c.contains-else-contains.ensures _ MAPPED_TO_NOTHING-set)
    ∙ c.if-contains-2.false in
    rw (no_space, something) refl
