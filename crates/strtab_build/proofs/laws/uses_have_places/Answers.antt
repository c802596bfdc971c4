use Rattle.std.proofs.lemmas.Cmp.{nat_list_eq_equiv}
use Rattle.std.proofs.lemmas.Map.Views.{list_any-from_Contains}
use Rattle.strtab_build.proofs.DistinctLemmas.{distinct-append_left}
use Rattle.strtab_build.proofs.TableLemmas.{place_of-append, place_of-distinct, string_at-place_of, table-distinct}
use Rattle.strtab_build.proofs.laws.uses_have_places.Goals as goal

pub returns-clause-names : goal.returns-clause-names
returns-clause-names c = distinct-append_left

pub returns-clause-tables : goal.returns-clause-tables
returns-clause-tables c = table-distinct

pub returns-clause-places : goal.returns-clause-places
returns-clause-places c = λ used name. place_of-distinct name used

pub returns-clause-stays : goal.returns-clause-stays
returns-clause-stays c = λ used more name there.
    place_of-append name used more (list_any-from_Contains nat_list_eq_equiv name used there)

pub returns-clause-reads : goal.returns-clause-reads
returns-clause-reads c = λ used name. string_at-place_of name used
