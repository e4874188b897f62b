use Rattle.descent.proofs.Extending.{course_long}
use Rattle.descent.proofs.Routing.{course_routes, course_within}
use Rattle.descent.proofs.Standing.{course_in_use}
use Rattle.descent.proofs.Trailing.{course_trails}
use Rattle.descent.proofs.law.courses_are_routes.Goals as goal

pub returns : goal.returns
returns c = record { routes = course_routes; within = course_within; trails = course_trails; used = course_in_use; long = course_long }
