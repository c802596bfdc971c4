-- A reference to a loan is made where one to its bytes is.
use denote.Array.{Array}
use denote.Builtin.{u8}
use denote.Param.Shared.{copy_shared}
use denote.Struct.Field.{RawPtr-field, usize-field}
use denote.Struct.Laws.{RawPtr-copy, usize-copy}
use denote.Struct.Lending.{lent_at_shr_laws, of_Lends}
use Rattle.c_handles.proofs.lent.Lending.{bytes_laws, bytes_copied, lends_part}
use Rattle.c_handles.specs.Lent.Loans.{halved_share}
use Rattle.c_handles.specs.contracts.lent.loan.Loan as loan
use Rattle.c_handles.proofs.lent.loan.Loan.TheLaw.Statement.{statement}

pub shares : statement
shares =
    of_Lends loan.struct loan.the_codes loan.the_heap loan.the_lent
    (λ d p. lent_at_shr_laws (Array u8 d.len) (bytes_laws d.len) d.at d.bytes)
    (copy_shared RawPtr-field RawPtr-copy, (copy_shared usize-field usize-copy, tt))
    (λ M 𝓤 𝓛 d p. lends_part 𝓛 (halved_share d.part) (Array u8 d.len) loan.the_row.lives d.at d.bytes
    ((bytes_copied 𝓛 d.len).shares (halved_share d.part) loan.the_row.lives d.bytes))
