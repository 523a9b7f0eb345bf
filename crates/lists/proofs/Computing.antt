-- One name for all definitions of this crate: where it unfolds, they all compute. For examples that
-- are proved by computing.
use Rattle.lists.specs.Choice.{choose, provided, ◌>>◌, is_some, or_else}
use Rattle.lists.specs.Lists.{all, every, any, select, first, last_or, all_but_last, runs, written, same}
use Rattle.lists.specs.Lists.{begins, rising, unfalling, insert, insert_all, largest}

unfoldable pub list_definitions : Unit {0}
unfolding choose provided ◌>>◌ is_some or_else all every any select first last_or all_but_last runs written same begins rising unfalling insert insert_all largest
list_definitions = tt
