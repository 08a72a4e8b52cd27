use Rattle.ick_session.proofs.RoomLaws.{room_left}
use Rattle.ick_session.proofs.laws.few_lines_have_room.Goals as goal

pub returns : goal.returns
returns c = room_left
