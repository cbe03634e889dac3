-- `report_octets::how_octet` answers how the floor was given, as a report's octet says it: 0, 1 or 2. Assumes nothing.
use Rattle.report_octets.proofs.how_octet.Goals as goal

pub returns-in-NotGiven : goal.returns-in-NotGiven
returns-in-NotGiven c = rw c.in-NotGiven.is

pub returns-in-AtOnce : goal.returns-in-AtOnce
returns-in-AtOnce c = rw c.in-AtOnce.is

pub returns-in-OutOfLine : goal.returns-in-OutOfLine
returns-in-OutOfLine c = rw c.in-OutOfLine.is
