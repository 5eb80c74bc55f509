-- What a running tape of the program is lent, as the definitions of a tape have it.
-- Assumes nothing.
use Rattle.tape.specs.Tape.{Loan, loan}
use Rattle.mcp795.specs.declared.one_tape.Running.{Running}

abbrev pub lent : Running → Loan
lent r = loan r.tape r.line r.eeprom r.id
