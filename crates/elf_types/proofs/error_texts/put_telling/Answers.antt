-- The text of each error is what the call that appends it states.
use Rattle.elf_types.specs.Text.{telling_text}
use Rattle.elf_types.proofs.error_texts.put_telling.Goals as goal

pub returns-in-NoSection : goal.returns-in-NoSection
unfolding telling_text
returns-in-NoSection c = rw c.in-NoSection.is c.put_missing_index.ensures

pub returns-in-NoData : goal.returns-in-NoData
unfolding telling_text
returns-in-NoData c = rw c.in-NoData.is c.put_missing_index-in-NoData.ensures

pub returns-in-NoEntry : goal.returns-in-NoEntry
unfolding telling_text
returns-in-NoEntry c = rw c.in-NoEntry.is c.put_missing.ensures

pub returns-in-NoString : goal.returns-in-NoString
unfolding telling_text
returns-in-NoString c = rw c.in-NoString.is c.put_missing-in-NoString.ensures

pub returns-in-OutOfFile : goal.returns-in-OutOfFile
unfolding telling_text
returns-in-OutOfFile c = rw c.in-OutOfFile.is c.put_section.ensures

pub returns-in-Ragged : goal.returns-in-Ragged
unfolding telling_text
returns-in-Ragged c = rw c.in-Ragged.is c.put_section-in-Ragged.ensures

pub returns-in-NotStrings : goal.returns-in-NotStrings
unfolding telling_text
returns-in-NotStrings c = rw c.in-NotStrings.is c.put_section-in-NotStrings.ensures

pub returns-in-Unended : goal.returns-in-Unended
unfolding telling_text
returns-in-Unended c =
    rw c.in-Unended.is (c.put_numbered.ensures.ok, c.put_numbered.ensures.err)

pub returns-in-BadMember : goal.returns-in-BadMember
unfolding telling_text
returns-in-BadMember c =
    rw c.in-BadMember.is (c.put_numbered-in-BadMember.ensures.ok, c.put_numbered-in-BadMember.ensures.err)

pub returns-in-BadChain : goal.returns-in-BadChain
unfolding telling_text
returns-in-BadChain c =
    rw c.in-BadChain.is (c.put_numbered-in-BadChain.ensures.ok, c.put_numbered-in-BadChain.ensures.err)

pub returns-in-BadAlign : goal.returns-in-BadAlign
unfolding telling_text
returns-in-BadAlign c =
    rw c.in-BadAlign.is (c.put_numbered-in-BadAlign.ensures.ok, c.put_numbered-in-BadAlign.ensures.err)

pub returns-in-Unsorted : goal.returns-in-Unsorted
unfolding telling_text
returns-in-Unsorted c =
    rw c.in-Unsorted.is (c.put_numbered-in-Unsorted.ensures.ok, c.put_numbered-in-Unsorted.ensures.err)

pub returns-in-WrongKind : goal.returns-in-WrongKind
unfolding telling_text
returns-in-WrongKind c = rw c.in-WrongKind.is c.put_held.ensures

pub returns-in-Unfit : goal.returns-in-Unfit
unfolding telling_text
returns-in-Unfit c = rw c.in-Unfit.is c.put_unfit.ensures

pub returns-in-Overlap : goal.returns-in-Overlap
unfolding telling_text
returns-in-Overlap c = rw c.in-Overlap.is c.put_overlap.ensures
