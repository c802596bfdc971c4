use Rattle.std.proofs.Common.{ap}
use Rattle.elf_calls_apply.proofs.SetFields.{of_sym, of_rel, of_rela, of_dyn, sym_sets, rel_sets, rela_sets, dyn_sets}
use Rattle.elf_calls_apply.proofs.items.set_field.Goals as goal

pub returns-in-SymName : goal.returns-in-SymName
returns-in-SymName g c = sym_sets g.S.Source c.args.d c.args.i _ _ _ c.args.set (ap of_sym c.in-SymName.is) c.set_sym.ensures

pub returns-in-SymValue : goal.returns-in-SymValue
returns-in-SymValue g c = sym_sets g.S.Source c.args.d c.args.i _ _ _ c.args.set (ap of_sym c.in-SymValue.is) c.set_sym-in-SymValue.ensures

pub returns-in-SymSize : goal.returns-in-SymSize
returns-in-SymSize g c = sym_sets g.S.Source c.args.d c.args.i _ _ _ c.args.set (ap of_sym c.in-SymSize.is) c.set_sym-in-SymSize.ensures

pub returns-in-SymInfo : goal.returns-in-SymInfo
returns-in-SymInfo g c = sym_sets g.S.Source c.args.d c.args.i _ _ _ c.args.set (ap of_sym c.in-SymInfo.is) c.set_sym-in-SymInfo.ensures

pub returns-in-SymOther : goal.returns-in-SymOther
returns-in-SymOther g c = sym_sets g.S.Source c.args.d c.args.i _ _ _ c.args.set (ap of_sym c.in-SymOther.is) c.set_sym-in-SymOther.ensures

pub returns-in-SymShndx : goal.returns-in-SymShndx
returns-in-SymShndx g c = sym_sets g.S.Source c.args.d c.args.i _ _ _ c.args.set (ap of_sym c.in-SymShndx.is) c.set_sym-in-SymShndx.ensures

pub returns-in-RelOffset : goal.returns-in-RelOffset
returns-in-RelOffset g c = rel_sets g.S.Source c.args.d c.args.i _ _ _ c.args.set (ap of_rel c.in-RelOffset.is) c.set_rel.ensures

pub returns-in-RelSym : goal.returns-in-RelSym
returns-in-RelSym g c = rel_sets g.S.Source c.args.d c.args.i _ _ _ c.args.set (ap of_rel c.in-RelSym.is) c.set_rel-in-RelSym.ensures

pub returns-in-RelType : goal.returns-in-RelType
returns-in-RelType g c = rel_sets g.S.Source c.args.d c.args.i _ _ _ c.args.set (ap of_rel c.in-RelType.is) c.set_rel-in-RelType.ensures

pub returns-in-RelaOffset : goal.returns-in-RelaOffset
returns-in-RelaOffset g c = rela_sets g.S.Source c.args.d c.args.i _ _ _ c.args.set (ap of_rela c.in-RelaOffset.is) c.set_rela.ensures

pub returns-in-RelaSym : goal.returns-in-RelaSym
returns-in-RelaSym g c = rela_sets g.S.Source c.args.d c.args.i _ _ _ c.args.set (ap of_rela c.in-RelaSym.is) c.set_rela-in-RelaSym.ensures

pub returns-in-RelaType : goal.returns-in-RelaType
returns-in-RelaType g c = rela_sets g.S.Source c.args.d c.args.i _ _ _ c.args.set (ap of_rela c.in-RelaType.is) c.set_rela-in-RelaType.ensures

pub returns-in-RelaAddend : goal.returns-in-RelaAddend
returns-in-RelaAddend g c = rela_sets g.S.Source c.args.d c.args.i _ _ _ c.args.set (ap of_rela c.in-RelaAddend.is) c.set_rela-in-RelaAddend.ensures

pub returns-in-DynTag : goal.returns-in-DynTag
returns-in-DynTag g c = dyn_sets g.S.Source c.args.d c.args.i _ _ _ c.args.set (ap of_dyn c.in-DynTag.is) c.set_dyn.ensures

pub returns-in-DynVal : goal.returns-in-DynVal
returns-in-DynVal g c = dyn_sets g.S.Source c.args.d c.args.i _ _ _ c.args.set (ap of_dyn c.in-DynVal.is) c.set_dyn-in-DynVal.ensures
