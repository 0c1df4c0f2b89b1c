use Rattle.feeding.proofs.Story.{less_room}
use Rattle.feeding.proofs.feed.Goals as goal

pub returns-in_err-with_capacity-clause-less_room_is_refused : goal.returns-in_err-with_capacity-clause-less_room_is_refused
returns-in_err-with_capacity-clause-less_room_is_refused c = less_room

pub returns-in_err-with_capacity-2-clause-less_room_is_refused : goal.returns-in_err-with_capacity-2-clause-less_room_is_refused
returns-in_err-with_capacity-2-clause-less_room_is_refused c = less_room

pub returns-clause-less_room_is_refused : goal.returns-clause-less_room_is_refused
returns-clause-less_room_is_refused c = less_room
