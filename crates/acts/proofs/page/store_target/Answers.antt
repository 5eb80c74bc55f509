-- Each target's page goes into its own memory, or into none.
-- Assumes nothing.
use Rattle.acts.proofs.PageLaws.{store_part}
use Rattle.acts.proofs.page.store_target.Goals as goal

pub returns-in-Eeprom-clause-eeprom_after : goal.returns-in-Eeprom-clause-eeprom_after
returns-in-Eeprom-clause-eeprom_after c =
    let e = c.in-Eeprom.is in
    let p = c.page-base.ensures in
    rw (e, ← p) (store_part _ _ _ _ _ (rw p (rw e at c.requires.eeprom_page)) c.store.ensures)

pub returns-in-Id-clause-id_after : goal.returns-in-Id-clause-id_after
returns-in-Id-clause-id_after c =
    let e = c.in-Id.is in
    let p = c.page-base-in-Id.ensures in
    rw (e, ← p) (store_part _ _ _ _ _ (rw p (rw e at c.requires.id_page)) c.store-in-Id.ensures)
