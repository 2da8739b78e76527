use Rattle.ng_space_tests.proofs.Pages.{page_place}
use Rattle.ng_space_tests.proofs.Race.{has_group, may_push_avail, may_stock_freed, serves-captured, serves-pushed, serves-stocked}
use Rattle.ng_space_tests.proofs.race_tests.swap_masks.Goals as goal

pub capture-avail-requires : goal.capture-avail-requires
capture-avail-requires g c = record { live = (has_group _ c.requires.serves) }

pub stock-requires : goal.stock-requires
stock-requires g c = record { may = (may_stock_freed _ _ _ _ c.requires.serves c.capture-avail.ensures.captured) }

pub push_parent-requires : goal.push_parent-requires
push_parent-requires g c = record { slots = (may_push_avail _ _ _ _ c.requires.serves c.capture-avail.ensures.captured _ c.stock.ensures.none c.stock.ensures.stocked) }

pub returns-then-avail-ne0 : goal.returns-then-avail-ne0
returns-then-avail-ne0 g c = record { serves = serves-pushed _ _ _ _ (serves-stocked _ _ _ (serves-captured _ _ _ _ c.requires.serves c.capture-avail.ensures.captured) c.stock.ensures.none c.stock.ensures.stocked) c.push_parent.ensures }

pub returns-else-avail-ne0 : goal.returns-else-avail-ne0
returns-else-avail-ne0 g c = record { serves = serves-stocked _ _ _ (serves-captured _ _ _ _ c.requires.serves c.capture-avail.ensures.captured) c.stock.ensures.none c.stock.ensures.stocked }
